-- Parts hold where their rows are satisfied.
use Rattle.std.proofs.Common.{◌≡◌, ℕ, Bool, true, false, cond, List, [], ◌∷◌, Option, None, Some, IfSome, refl, sym, ◌∙◌, subst}
use Rattle.std.proofs.lemmas.Option.{none-some, same_Some}
use Rattle.cip_rational.specs.Rational.{ℚ, ◌*ℚ◌, zeroℚ, oneℚ, ◌≤ℚ◌, ◌<ℚ◌, lt_test}
use Rattle.cip_rational.proofs.Rational.Ring.{+ℚ-zero, one-*ℚ}
use Rattle.cip_rational.proofs.Rational.Order.{≤ℚ_of_lt, lt_of_test, test_of_lt, lt_test_of_le}
use Rattle.cip_rational.proofs.Rational.Monotone.{*ℚ_mono}
use Rattle.cip_rational.proofs.Rational.Inverse.{*ℚ_antitone}
use Rattle.cip_problem.specs.Program.{Sides, Row}
use Rattle.cip_problem.specs.Activity.{activity, value_at}
use Rattle.cip_problem.specs.Box.{Between, IsInBox, sides_at}
use Rattle.cip_problem.specs.Points.{IsSatisfied}
use Rattle.cip_problem.proofs.Points.AtPlaces.{in_box_at, satisfied_at}
use Rattle.cip_problem.specs.LinearProgram.{LinearProgram, IsPoint}
use Rattle.cip_problem.specs.Aggregate.{Part, used_side, IsPartOf, bound_row, HoldsAt, AllHoldAt}
use Rattle.cip_problem.specs.Multipliers.{IsPartOfProgram, Of_row, Of_column, ArePartsOf}

-- ---- the side that is used

low_kept : (factor side value : ℚ) (low : Option ℚ) → zeroℚ <ℚ factor → low ≡ Some side → IfSome low (λ s. s ≤ℚ value) → factor *ℚ side ≤ℚ factor *ℚ value
low_kept factor side value None p e h = absurd (none-some side e)
low_kept factor side value (Some s) p e h = *ℚ_mono side value factor (≤ℚ_of_lt p) (subst (λ t. t ≤ℚ value) (same_Some s side e) h)

high_kept : (factor side value : ℚ) (high : Option ℚ) → factor <ℚ zeroℚ → high ≡ Some side → IfSome high (λ s. value ≤ℚ s) → factor *ℚ side ≤ℚ factor *ℚ value
high_kept factor side value None p e h = absurd (none-some side e)
high_kept factor side value (Some s) p e h = *ℚ_antitone value side factor (≤ℚ_of_lt p) (subst (λ t. value ≤ℚ t) (same_Some s side e) h)

kept_cases : (factor side value : ℚ) (low high : Option ℚ) (positive negative : Bool) → lt_test zeroℚ factor ≡ positive → lt_test factor zeroℚ ≡ negative → cond positive low (cond negative high None) ≡ Some side → Between low high value → factor *ℚ side ≤ℚ factor *ℚ value
kept_cases factor side value low high true negative p n e h = low_kept factor side value low (lt_of_test p) e h.above
kept_cases factor side value low high false true p n e h = high_kept factor side value high (lt_of_test n) e h.below
kept_cases factor side value low high false false p n e h = absurd (none-some side e)

-- a value between two sides, times a factor, is at least the side that the factor uses
pub used_kept : (factor side value : ℚ) (low high : Option ℚ) → used_side factor low high ≡ Some side → Between low high value → factor *ℚ side ≤ℚ factor *ℚ value
used_kept factor side value low high e h =
    kept_cases factor side value low high (lt_test zeroℚ factor) (lt_test factor zeroℚ) refl refl e h

-- a factor above 0 uses the low side, one below 0 the high side
pub used_low : (factor : ℚ) (low high : Option ℚ) → zeroℚ <ℚ factor → used_side factor low high ≡ low
used_low factor low high h = rw (test_of_lt h) refl

pub used_high : (factor : ℚ) (low high : Option ℚ) → factor <ℚ zeroℚ → used_side factor low high ≡ high
used_high factor low high h = rw (lt_test_of_le (≤ℚ_of_lt h), test_of_lt h) refl

-- ---- parts

pub part_holds : (row : Row) (part : Part) (point : List ℚ) → IsPartOf row part → IsSatisfied row point → HoldsAt part point
part_holds row part point h k =
    subst (λ ts. part.factor *ℚ part.side ≤ℚ part.factor *ℚ activity ts point) (sym h.terms)
    (used_kept part.factor part.side (activity row.terms point) row.low row.high h.side k)

-- a column's bounds, as a row, are satisfied where its value lies between them
pub bound_row_activity : (column : ℕ) (point : List ℚ) → activity (record { column = column; coefficient = oneℚ } ∷ []) point ≡ value_at point column
bound_row_activity column point = +ℚ-zero (oneℚ *ℚ value_at point column) ∙ one-*ℚ (value_at point column)

pub bound_row_satisfied : (column : ℕ) (sides : Sides) (point : List ℚ) → Between sides.low sides.high (value_at point column) → IsSatisfied (bound_row column sides) point
bound_row_satisfied column sides point h = subst (Between sides.low sides.high) (sym (bound_row_activity column point)) h

pub bound_part_holds : (box : List Sides) (column : ℕ) (part : Part) (point : List ℚ) → IsPartOf (bound_row column (sides_at box column)) part → IsInBox box point → HoldsAt part point
bound_part_holds box column part point h k =
    part_holds (bound_row column (sides_at box column)) part point h (bound_row_satisfied column (sides_at box column) point (in_box_at box point column k))

program_part_holds : (program : LinearProgram) (part : Part) (point : List ℚ) → IsPoint program point → IsPartOfProgram program part → HoldsAt part point
program_part_holds program part point h (Of_row number row e k) = part_holds row part point k (satisfied_at program.rows point number row h.rows e)
program_part_holds program part point h (Of_column column l k) = bound_part_holds program.bounds column part point k h.within

-- the parts of a program hold at each point of it
pub program_parts_hold : (program : LinearProgram) (parts : List Part) (point : List ℚ) → ArePartsOf program parts → IsPoint program point → AllHoldAt parts point
program_parts_hold program [] point h k = tt
program_parts_hold program (p ∷ ps) point h k = (program_part_holds program p point k h.0, program_parts_hold program ps point h.1 k)
