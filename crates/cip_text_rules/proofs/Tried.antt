-- The examples whose numbers aren't read off the text, but formed.
use lib.Chars.{codes}
use Rattle.std.proofs.Common.{◌≡◌, ap, ℕ, true, false, ◌||◌, Bool, cond, Option, None, lit≤, refl, ◌^◌, ◌∙◌, pos, negsuc, lit<, List, [], ◌∷◌, Some}
use Rattle.cip_rational.specs.Rational.{ℚ, ratio, negate, zeroℚ, ◌+ℚ◌, ◌-ℚ◌}
use Rattle.cip_rational.proofs.Rational.Lowest.{numerator-ratio, denominator-ratio}
use Rattle.cip_rational.specs.Gcd.{gcd}
use Rattle.cip_rational.specs.Range.{sum_overflows, fits_range}
use Rattle.cip_rational.proofs.WithZero.{zero-sum_overflows}
use Rattle.cip_rational.proofs.Range.InRange.{fits-integer}
use Rattle.cip_rational.proofs.Rational.Ratio.{ratio-negate, ratio-add, integer_ratio}
use Rattle.cip_rational.proofs.Rational.Ring.{negate_zero, sub_is}
use Rattle.cip_text_rules.specs.Program.{Program}
use Rattle.cip_rational.specs.Numeral.{numeral_of}
use Rattle.cip_text_rules.specs.LineTexts.{outcome_of, Means}
use Rattle.cip_text_rules.specs.MpsExamples.{three_columns, three_columns_program, loose_text, loose_program, open_text, open_program, semi_text, semi_program, four_rows, row_sides_in, mps_outcome, sides_of_four, integral, large_value, facts_in}
use Rattle.cip_text_rules.specs.MpsSayings.{RangeLine, RightSideLine}
use Rattle.cip_text_rules.specs.MpsRules.{fault_of}
use Rattle.cip_text_rules.proofs.SemiTried.{two_tested, five_tested}

negate_five : negate (ratio (pos 5) 1) ≡ ratio (negsuc 4) 1
negate_five = ratio-negate (pos 5) 1

negate_four : negate (ratio (pos 4) 1) ≡ ratio (negsuc 3) 1
negate_four = ratio-negate (pos 4) 1

negate_three : negate (ratio (pos 3) 1) ≡ ratio (negsuc 2) 1
negate_three = ratio-negate (pos 3) 1

negate_minus_three : negate (ratio (negsuc 2) 1) ≡ ratio (pos 3) 1
negate_minus_three = ratio-negate (negsuc 2) 1

four_more : ratio (pos 10) 1 +ℚ ratio (pos 4) 1 ≡ ratio (pos 14) 1
four_more = ratio-add (pos 10) (pos 4) 1 1 (lit< tt) (lit< tt)

four_less : ratio (pos 10) 1 -ℚ ratio (pos 4) 1 ≡ ratio (pos 6) 1
four_less =
    sub_is _ _ ∙ ap (λ x. ratio (pos 10) 1 +ℚ x) negate_four ∙ ratio-add (pos 10) (negsuc 3) 1 1 (lit< tt) (lit< tt)

-- the program with other costs and another constant
abbrev with_costs : Program → List ℚ → ℚ → Program
with_costs program costs constant = record program { costs = costs; constant = constant }

three_columns_read : mps_outcome three_columns ≡ Means (with_costs three_columns_program (negate (ratio (pos 5) 1) ∷ negate (ratio (pos 4) 1) ∷ negate (ratio (pos 3) 1) ∷ []) (negate (negate zeroℚ)))
unfolding numeral_of outcome_of
three_columns_read = refl

negated : (program : Program) → with_costs program (negate (ratio (pos 5) 1) ∷ negate (ratio (pos 4) 1) ∷ negate (ratio (pos 3) 1) ∷ []) (negate (negate zeroℚ)) ≡ with_costs program (ratio (negsuc 4) 1 ∷ ratio (negsuc 3) 1 ∷ ratio (negsuc 2) 1 ∷ []) zeroℚ
negated program = rw (negate_five, negate_four, negate_three, negate_zero, negate_zero)

pub three_columns_is : mps_outcome three_columns ≡ Means three_columns_program
three_columns_is = three_columns_read ∙ ap Means (negated three_columns_program)

loose_read : mps_outcome loose_text ≡ Means (with_costs loose_program loose_program.costs (negate (ratio (negsuc 2) 1)))
unfolding numeral_of outcome_of
loose_read = refl

pub loose_is : mps_outcome loose_text ≡ Means loose_program
loose_is = loose_read ∙ ap (λ x. Means (with_costs loose_program loose_program.costs x)) negate_minus_three

open_read : mps_outcome open_text ≡ Means (with_costs open_program open_program.costs (negate zeroℚ))
unfolding numeral_of outcome_of
open_read = refl

pub open_is : mps_outcome open_text ≡ Means open_program
open_is = open_read ∙ ap (λ x. Means (with_costs open_program open_program.costs x)) negate_zero

semi_read : mps_outcome semi_text ≡ Means (with_costs semi_program semi_program.costs (negate zeroℚ))
unfolding numeral_of outcome_of
semi_read = rw (two_tested, five_tested)

pub semi_is : mps_outcome semi_text ≡ Means semi_program
semi_is = semi_read ∙ ap (λ x. Means (with_costs semi_program semi_program.costs x)) negate_zero

pub ranged : row_sides_in (four_rows (codes "RHS\n R1 10 R2 10\n R3 10\nRANGES\n R1 -4 R2 -4\n R3 4\n")) ≡ sides_of_four (Some (integral 6)) (Some (integral 10)) (Some (integral 10)) (Some (integral 14)) (Some (integral 10)) (Some (integral 14))
unfolding numeral_of
ranged = rw (four_less, four_more)

pub range_down : row_sides_in (four_rows (codes "RANGES\n R1 4 R2 4\n R3 -4\nRHS\n R1 10 R2 10\n R3 10\n")) ≡ sides_of_four (Some (integral 6)) (Some (integral 10)) (Some (integral 10)) (Some (integral 14)) (Some (integral 6)) (Some (integral 10))
unfolding numeral_of
range_down = rw (four_less, four_more)

-- ---- a side that overflows

-- the sum of two whole numbers of 2 ^ 126 overflows
two_large : sum_overflows (ratio (pos (2 ^ 126)) 1) (ratio (pos (2 ^ 126)) 1) ≡ true
unfolding gcd sum_overflows
two_large =
    rw (numerator-ratio (pos (2 ^ 126)) 1 (lit< tt), denominator-ratio (pos (2 ^ 126)) 1 (lit< tt))

zero_and_large : sum_overflows zeroℚ (ratio (pos (2 ^ 126)) 1) ≡ false
zero_and_large = zero-sum_overflows (ratio (pos (2 ^ 126)) 1) (ap fits_range (integer_ratio (pos (2 ^ 126))) ∙ fits-integer (pos (2 ^ 126)) (lit≤ tt))

broken : (s : Bool) → s ≡ true → ◌≡◌ {A = Option ℕ} (cond (s || false) (Some 6) None) (Some 6)
broken true e = refl
broken false e = absurd (cc)

unbroken : (s : Bool) → s ≡ false → ◌≡◌ {A = Option ℕ} (cond (s || false) (Some 6) None) None
unbroken false e = refl
unbroken true e = absurd (cc)

pub wide_range : fault_of (facts_in (four_rows (codes "RHS\n R2 85070591730234615865843651857942052864\n"))) (RangeLine [] large_value) ≡ Some 6
unfolding numeral_of
wide_range = broken (sum_overflows (ratio (pos (2 ^ 126)) 1) (ratio (pos (2 ^ 126)) 1)) two_large

pub wide_right_side : fault_of (facts_in (four_rows (codes "RANGES\n R2 85070591730234615865843651857942052864\n"))) (RightSideLine [] large_value) ≡ Some 6
unfolding numeral_of
wide_right_side = broken (sum_overflows (ratio (pos (2 ^ 126)) 1) (ratio (pos (2 ^ 126)) 1)) two_large

pub range_before : fault_of (facts_in (four_rows [])) (RangeLine [] large_value) ≡ None
unfolding numeral_of
range_before = unbroken (sum_overflows zeroℚ (ratio (pos (2 ^ 126)) 1)) zero_and_large
