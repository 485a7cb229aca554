-- Boxes, choices and whole values, column by column.
use Rattle.std.proofs.Common.{◌≡◌, ◌≢◌, inl, inr, ℕ, zero, suc, ◌<◌, Bool, true, List, [], ◌∷◌, length, Some, slice_get, sym, ap, ◌∙◌, arith}
use Rattle.std.proofs.lemmas.Bool.{cases_eq}
use Rattle.std.proofs.lemmas.Option.{none-some, same_Some}
use Rattle.cip_rational.specs.Rational.{ℚ}
use Rattle.cip_problem.specs.Program.{Sides}
use Rattle.cip_problem.specs.Activity.{value_at}
use Rattle.cip_problem.specs.Box.{Between, IsInBox, sides_at}
use Rattle.cip_problem.specs.Wholes.{HasWhole, AllHaveWholes}

-- ---- points

-- a point lies in a box where each of its values lies between the column's sides
pub in_box : (box : List Sides) (point : List ℚ) → length point ≡ length box → ((column : ℕ) → column < length box → Between (sides_at box column).low (sides_at box column).high (value_at point column)) → IsInBox box point
in_box [] [] e f = tt
in_box [] (v ∷ vs) e f = absurd (omega (arith, e))
in_box (s ∷ ss) [] e f = absurd (omega (arith, e))
in_box (s ∷ ss) (v ∷ vs) e f = (f 0 (omega arith), in_box ss vs (omega (arith, e)) (λ column l. f (suc column) (omega (arith, l))))

-- ---- whole values

pub has_whole_at : (integral : List Bool) (box : List Sides) (column : ℕ) → AllHaveWholes integral box → slice_get integral column ≡ Some true → HasWhole (sides_at box column)
has_whole_at [] box column h e = absurd (none-some true e)
has_whole_at (w ∷ ws) [] column h e = absurd h
has_whole_at (w ∷ ws) (s ∷ ss) zero h e = h.0 (same_Some w true e)
has_whole_at (w ∷ ws) (s ∷ ss) (suc column) h e = has_whole_at ws ss column h.1 e

pub all_have_wholes : (integral : List Bool) (box : List Sides) → length box ≡ length integral → ((column : ℕ) → slice_get integral column ≡ Some true → HasWhole (sides_at box column)) → AllHaveWholes integral box
all_have_wholes [] [] e f = tt
all_have_wholes [] (s ∷ ss) e f = absurd (omega (arith, e))
all_have_wholes (w ∷ ws) [] e f = absurd (omega (arith, e))
all_have_wholes (w ∷ ws) (s ∷ ss) e f = ((λ h. f 0 (ap Some h)), all_have_wholes ws ss (omega (arith, e)) (λ column. f (suc column)))

-- ---- columns that are kept

-- a column is the place of one of the first so many, or of none
pub data IsPlace (kept : ℕ → ℕ) (n column : ℕ) : Type 0 where
  of_one : (own : ℕ) → own < n → kept own ≡ column → IsPlace kept n column
  of_none : ((own : ℕ) → own < n → kept own ≢ column) → IsPlace kept n column

pub is_place : (kept : ℕ → ℕ) (n column : ℕ) → IsPlace kept n column
is_place kept zero column = of_none (λ own l. absurd (omega (arith, l)))
is_place kept (suc n) column = elim (cases_eq (kept n) column) [
  | inl e ↦ of_one n (omega arith) e
  | inr d ↦ further (is_place kept n column) d
]
  where
    further : IsPlace kept n column → kept n ≢ column → IsPlace kept (suc n) column
    further (of_one own l e) d = of_one own (omega (arith, l)) e
    further (of_none f) d = of_none (λ own l e. elim (cases_eq own n) [
      | inl same ↦ d (sym (ap kept same) ∙ e)
      | inr other ↦ f own (omega (arith, l, other)) e
    ])
