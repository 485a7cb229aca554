-- What was gathered over a box and a pool, in words of the box and the pool that stand beside it.
use Rattle.std.proofs.Common.{◌≡◌, ◌≤◌, ℕ, List, length, sym, ap, ◌∙◌, arith}
use Rattle.cip_problem.specs.Program.{Sides, Row}
use Rattle.cip_rows.specs.RowPools.{Pool}
use Rattle.cip_relax.specs.NodeRows.{usable_rows, usable_ids}

module _ (kept box : List Sides) (same : kept ≡ box) where
  pub kept_long : (n : ℕ) → length box ≡ n → length kept ≡ n
  kept_long n h = ap length same ∙ h

  pub kept_room : (n count room : ℕ) → length box ≡ n → room ≡ count → count ≡ n → length kept ≤ room
  kept_room n count room h r c = omega (arith, ap length same, h, r, c)

  module _ (held pool : Pool) (whole : held ≡ pool) where
    pub kept_wide : length box ≡ pool.columns → length kept ≡ held.columns
    kept_wide h = ap length same ∙ h ∙ sym (ap (λ (p : Pool). p.columns) whole)

    pub kept_rows : (rows : List Row) → rows ≡ usable_rows box pool.rows → rows ≡ usable_rows kept held.rows
    kept_rows rows h =
        h ∙ sym (ap (λ (b : List Sides). usable_rows b pool.rows) same) ∙ sym (ap (λ (p : Pool). usable_rows kept p.rows) whole)

    pub kept_ids : (ids : List ℕ) → ids ≡ usable_ids box pool.rows → ids ≡ usable_ids kept held.rows
    kept_ids ids h =
        h ∙ sym (ap (λ (b : List Sides). usable_ids b pool.rows) same) ∙ sym (ap (λ (p : Pool). usable_ids kept p.rows) whole)
