-- The examples of semi-continuous columns that need a test of a number against 0.
use lib.Chars.{codes}
use Rattle.std.proofs.Common.{◌≡◌, true, false, refl, pos, negsuc}
use Rattle.cip_rational.specs.Rational.{ratio, zeroℚ, whole, lt_test, le_test}
use Rattle.cip_rational.proofs.Rational.Order.{≤ℚ_refl, test_of_le}
use Rattle.cip_rational.specs.Numeral.{numeral_of}
use Rattle.cip_text_rules.specs.LineTexts.{outcome_of}
use Rattle.cip_text_rules.specs.MpsExamples.{continuous, choices_in, sides_in, open_between, behind_plain, integral, IsFaulty}

zero_tested : le_test zeroℚ zeroℚ ≡ true
zero_tested = test_of_le (≤ℚ_refl zeroℚ)

nought_tested : le_test zeroℚ (ratio (pos 0) 1) ≡ true
unfolding lt_test le_test zeroℚ whole ratio
nought_tested = refl

pub two_tested : le_test zeroℚ (ratio (pos 2) 1) ≡ true
unfolding lt_test le_test zeroℚ whole ratio
two_tested = refl

pub five_tested : le_test zeroℚ (ratio (pos 5) 1) ≡ true
unfolding lt_test le_test zeroℚ whole ratio
five_tested = refl

minus_one_tested : le_test zeroℚ (ratio (negsuc 0) 1) ≡ false
unfolding lt_test le_test zeroℚ whole ratio
minus_one_tested = refl

minus_three_tested : le_test zeroℚ (ratio (negsuc 2) 1) ≡ false
unfolding lt_test le_test zeroℚ whole ratio
minus_three_tested = refl

pub low_zero : choices_in (continuous (codes " SC B x 5\n")) ≡ open_between zeroℚ (integral 5)
unfolding numeral_of
low_zero = rw (zero_tested)

pub low_before : choices_in (continuous (codes " LO B x 2\n SC B x 5\n")) ≡ open_between (integral 2) (integral 5)
unfolding numeral_of
low_before = rw (two_tested)

pub low_behind : choices_in (continuous (codes " SC B x 5\n LO B x 2\n")) ≡ open_between (integral 2) (integral 5)
unfolding numeral_of
low_behind = rw (two_tested)

pub later_high : choices_in (continuous (codes " SC B x 5\n UP B x 7\n")) ≡ open_between zeroℚ (integral 7)
unfolding numeral_of
later_high = rw (zero_tested)

pub again : choices_in (continuous (codes " SC B x 5\n SC B x 3\n")) ≡ open_between zeroℚ (integral 3)
unfolding numeral_of
again = rw (zero_tested)

pub sides : sides_in (continuous (codes " LO B x 2\n SC B x 5\n")) ≡ behind_plain zeroℚ (integral 5)
unfolding numeral_of
sides = rw (two_tested, five_tested)

pub falls : choices_in (continuous (codes " LO B x 0\n SC B x 5\n UP B x -3\n")) ≡ open_between (ratio (pos 0) 1) (ratio (negsuc 2) 1)
unfolding numeral_of
falls = rw (nought_tested)

pub sides_fall : sides_in (continuous (codes " LO B x 0\n SC B x 5\n UP B x -3\n")) ≡ behind_plain zeroℚ zeroℚ
unfolding numeral_of
sides_fall = rw (nought_tested, minus_three_tested)

pub negative_low : IsFaulty (continuous (codes " LO B x -1\n SC B x 5\nENDATA\n")) 11 21
unfolding numeral_of outcome_of
negative_low = rw (minus_one_tested)
