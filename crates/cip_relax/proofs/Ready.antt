-- The rows and costs of a program, and the rows of a pool, are ready to be solved over a box.
use Rattle.std.proofs.Common.{◌≡◌, ℕ, List, map, All, None, length, ap, ◌∙◌, sym, subst}
use Rattle.std.specs.Borrow.{Bor}
use Rattle.cip_problem.specs.Program.{Sides, Row, Program}
use Rattle.cip_problem.specs.Activity.{StandsBelow}
use Rattle.cip_problem.specs.WellFormed.{columns, IsWellFormed}
use Rattle.cip_cert.specs.declared.rows.PoolRow.{PoolRow}
use Rattle.cip_cert.specs.Pool.{AreRising}
use Rattle.cip_cert.specs.Lent.{KeptFits, Fits}
use Rattle.cip_rows.specs.RowPools.{Pool, IsSoundPool}
use Rattle.cip_basis.specs.Shown.{usable_rows, lent_rows, IsReady}
use Rattle.cip_basis.specs.declared.problem.Problem.{Problem}
use Rattle.cip_relax.specs.NodeRows.{usable_ids}
use Rattle.cip_relax.specs.Relaxing.{IsRelaxed}
use Rattle.cip_relax.specs.declared.relaxed.Relaxed.{Relaxed}

-- rows of a program and of a pool stand on the columns of a box
pub rows_fit : (program : Program) (pool : Pool) (n : ℕ) (own : List Row) (held : List PoolRow) → n ≡ columns program → n ≡ pool.columns → own ≡ program.rows → held ≡ pool.rows → IsWellFormed program → IsSoundPool pool → Fits n (record { own = own; pool = held; cutoff = None })
rows_fit program pool n own held long wide same kept formed sound = record {
  own = subst (λ k. All (λ (row : Row). StandsBelow k row.terms) own) (sym long)
      (subst (λ (rows : List Row). All (λ (row : Row). StandsBelow (columns program) row.terms) rows) (sym same) formed.rows);
  pool = subst (λ k. All (KeptFits k) held) (sym wide)
      (subst (λ (rows : List PoolRow). All (KeptFits pool.columns) rows) (sym kept) sound.fits);
  rising = subst AreRising (sym kept) sound.rising;
  cutoff = tt;
}

-- rows and ids that are lent, of a pool whose rows are
pub rows_lent : (kept lent : List (Bor Row)) (rows : List Row) → lent ≡ kept → map (λ (row : Bor Row). row.now) kept ≡ rows → map (λ (row : Bor Row). row.now) lent ≡ rows
rows_lent kept lent rows same h = ap (map (λ (row : Bor Row). row.now)) same ∙ h

pub ids_lent : (box : List Sides) (kept lent : List ℕ) (pool held : List PoolRow) → lent ≡ kept → kept ≡ usable_ids box pool → held ≡ pool → lent ≡ usable_ids box held
ids_lent box kept lent pool held same h e = same ∙ h ∙ sym (ap (usable_ids box) e)

-- what the linear program over rows that are lent came to
pub relaxed_lent : (program : Program) (box : List Sides) (own : List Row) (pool held : List PoolRow) (before after : ℕ) (relaxed : Relaxed) → own ≡ program.rows → held ≡ pool → after ≡ before → IsRelaxed program (record { own = own; pool = held; cutoff = None }) box after relaxed → IsRelaxed program (record { own = program.rows; pool = pool; cutoff = None }) box before relaxed
relaxed_lent program box own pool held before after relaxed same kept room h =
    subst (λ n. IsRelaxed program (record { own = program.rows; pool = pool; cutoff = None }) box n relaxed) room
    (subst (λ (rows : List PoolRow). IsRelaxed program (record { own = program.rows; pool = rows; cutoff = None }) box after relaxed) kept
    (subst (λ (rows : List Row). IsRelaxed program (record { own = rows; pool = held; cutoff = None }) box after relaxed) same h))

pub is_ready : (problem : Problem) (program : Program) (pool : Pool) → length problem.bounds.now ≡ columns program → length problem.bounds.now ≡ pool.columns → problem.own.now ≡ program.rows → problem.pool.now ≡ pool.rows → problem.costs.now ≡ program.costs → lent_rows problem.others.now ≡ usable_rows problem.bounds.now pool.rows → IsWellFormed program → IsSoundPool pool → IsReady problem
is_ready problem program pool n m own held costs others formed sound = record {
  costs = ap length costs ∙ sym n;
  fits = rows_fit program pool (length problem.bounds.now) problem.own.now problem.pool.now n m own held formed sound;
  others = others ∙ ap (usable_rows problem.bounds.now) (sym held);
}
