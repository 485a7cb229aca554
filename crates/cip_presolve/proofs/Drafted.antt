-- A draft of a program's parts.
use Rattle.std.proofs.Common.{◌≡◌, ◌∙◌, ℕ, zero, suc, Bool, List, [], ◌∷◌, length, subst, sym, ap₂, arith}
use Rattle.std.specs.Prelude.{All, slice_set}
use Rattle.std.specs.List.{AllByRecursion}
use Rattle.cip_rational.specs.Rational.{ℚ}
use Rattle.cip_problem.specs.Program.{Sides, Choice, Row, Program}
use Rattle.cip_problem.specs.Activity.{StandsBelow}
use Rattle.cip_problem.specs.WellFormed.{IsWellFormed}
use Rattle.cip_search.specs.NarrowedPrograms.{with_row}
use Rattle.cip_presolve.specs.DraftParts.{unnamed, IsDraft}
use Rattle.cip_presolve.proofs.FixedColumns.{from_rec, to_rec}

pub drafted : (program : Program) → IsWellFormed program → IsDraft (unnamed program)
drafted program formed = record {
  integral = formed.integral ∙ sym formed.bounds;
  costs = sym formed.bounds;
  few = omega (arith, formed.bounds, formed.few_columns);
  rows = subst (λ n. All (λ row. StandsBelow n row.terms) program.rows) (sym formed.bounds) formed.rows;
  choices = formed.choices;
}

-- one with another row that stands on its columns
pub row_set : (draft : Program) (number : ℕ) (row : Row) → IsDraft draft → StandsBelow (length draft.bounds) row.terms → IsDraft (with_row draft number row)
row_set draft number row d s = record {
  integral = d.integral;
  costs = d.costs;
  few = d.few;
  rows = from_rec _ _ (all_set (λ r. StandsBelow (length draft.bounds) r.terms) draft.rows number row (to_rec _ _ d.rows) s);
  choices = d.choices;
}
  where
    all_set : (P : Row → Type 0) (rows : List Row) (n : ℕ) (r : Row) → AllByRecursion P rows → P r → AllByRecursion P (slice_set rows n r)
    all_set P [] n r h p = tt
    all_set P (x ∷ xs) zero r h p = (p, h.1)
    all_set P (x ∷ xs) (suc n) r h p = (h.0, all_set P xs n r h.1 p)

-- parts that are those of a program make its draft
pub same_draft : (program : Program) (rows : List Row) (costs : List ℚ) (constant : ℚ) (integral : List Bool)
    (bounds : List Sides) (choices : List Choice)
    → rows ≡ program.rows → costs ≡ program.costs → constant ≡ program.constant → integral ≡ program.integral
    → bounds ≡ program.bounds → choices ≡ program.choices
    → (let draft : Program = record (unnamed program) {
      rows = rows;
      costs = costs;
      constant = constant;
      integral = integral;
      bounds = bounds;
      choices = choices;
    } in draft) ≡ unnamed program
same_draft program rows costs constant integral bounds choices r c k i b h =
    ap₂ (λ (rs : List Row) (cs : List ℚ). (let draft : Program = record (unnamed program) {
      rows = rs;
      costs = cs;
      constant = constant;
      integral = integral;
      bounds = bounds;
      choices = choices;
    } in draft)) r c
    ∙ ap₂ (λ (q : ℚ) (is : List Bool). (let draft : Program = record (unnamed program) {
      constant = q;
      integral = is;
      bounds = bounds;
      choices = choices;
    } in draft)) k i
    ∙ ap₂ (λ (bs : List Sides) (hs : List Choice). (let draft : Program = record (unnamed program) {
      bounds = bs;
      choices = hs;
    } in draft)) b h
