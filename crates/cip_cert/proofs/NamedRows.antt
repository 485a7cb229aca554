-- Rows that are found by their places.
use Rattle.std.proofs.Common.{◌≡◌, ℕ, ◌<◌, ◌≤◌, List, length, get_or, Option, Err, Ok, All, slice_get, refl, sym, ap, ◌∙◌, subst}
use Rattle.std.proofs.lemmas.Option.{slice_get-get_or, slice_get_read, slice_get_past}
use Rattle.cip_problem.specs.Program.{Sides, Row}
use Rattle.cip_problem.specs.Activity.{StandsBelow}
use Rattle.cip_lin.specs.declared.combos.RowId.{RowId}
use Rattle.cip_lin.specs.declared.combos.RowId.TheVariants.{Own}
use Rattle.cip_cert.specs.Checks.{known, named_row}
use Rattle.cip_cert.specs.Lent.{Lent}
use Rattle.cip_cert.specs.Resting.{is_resting}
use Rattle.cip_cert.specs.declared.faults.CutFault.TheVariants.{UnknownRow}
use Rattle.cip_cert.specs.declared.rows.PoolRow.{PoolRow}

-- a program's own row, by its number
pub own_named : (lent : Lent) (box : List Sides) (entry number : ℕ) (name : RowId) (row : Row) → name ≡ Own number → number < length lent.own → row ≡ get_or lent.own number row → All (λ (r : Row). StandsBelow (length box) r.terms) lent.own → (named_row lent box entry name ≡ Ok row) × StandsBelow (length box) row.terms
own_named lent box entry number name row e l h stand = (
  ap (named_row lent box entry) e ∙ ap (known entry) (slice_get_read lent.own (length lent.own) number row refl l h),
  subst (λ (r : Row). StandsBelow (length box) r.terms) (sym h) (stand number row l),
)

-- none has that number
pub none_named : (lent : Lent) (box : List Sides) (entry number : ℕ) (name : RowId) → name ≡ Own number → length lent.own ≤ number → named_row lent box entry name ≡ Err (UnknownRow entry)
none_named lent box entry number name e l = ap (named_row lent box entry) e ∙ ap (known entry) (slice_get_past lent.own number l)

-- whether the row of a pool at a place rests
pub resting_at : (pool : List PoolRow) (place : ℕ) (kept : PoolRow) (found : Option PoolRow) → place < length pool → slice_get pool place ≡ found → (get_or pool place kept).rests ≡ is_resting found
resting_at pool place kept found l h = ap is_resting (sym (slice_get-get_or pool place kept l) ∙ h)
