-- The code's tests of a value, as those of the text that says it.
use Rattle.std.proofs.Common.{◌≡◌, ◌↔◌, ℕ, ◌*◌, ◌^◌, nat_le, Bool, true, false, not, ◌&&◌, if◌then◌else◌, List, None, Some, IsTrue, is_le, pos, refl, sym, ap, ◌∙◌, rules}
use Rattle.cip_rational.specs.Rational.{ℚ, zeroℚ, lt_test, ◌<ℚ◌, integer, absolute, compare_rational}
use Rattle.cip_rational.proofs.Rational.Order.{≤ℚ_antisymm, le_of_lt_test, lt_of_test, test_of_lt}
use Rattle.cip_rational.proofs.Comparisons.{is_le-compare}
use Rattle.cip_rational.specs.Numeral.{Numeral, Exact, NotANumber, Huge, TooFine, value_of, numeral_of, is_minus}
use Rattle.cip_text_rules.specs.MpsWords.{is_zero, is_negative, is_positive, is_huge, is_infinity, near_or_huge, bound_number}
use Rattle.cip_text_rules.specs.MpsState.{is_zero_value, is_negative_value}
use Rattle.cip_text_rules.specs.MpsStepStatements.{is_far_value, is_positive_value}
use Rattle.cip_text_rules.proofs.Told.{value_zero, zero_is_zero, value_far, value_bound, value_bound_negative, value_bound_positive}

-- ---- 0

-- a value that passes the test of 0 is 0
zero_of_tests : (value : ℚ) (below above : Bool) → lt_test value zeroℚ ≡ below → lt_test zeroℚ value ≡ above → not below && not above ≡ true → value ≡ zeroℚ
zero_of_tests value false false p q h = ≤ℚ_antisymm (le_of_lt_test q) (le_of_lt_test p)
zero_of_tests value true above p q h = cc
zero_of_tests value false true p q h = cc

pub zero_of_test : (value : ℚ) → is_zero_value value ≡ true → value ≡ zeroℚ
zero_of_test value h = zero_of_tests value (lt_test value zeroℚ) (lt_test zeroℚ value) refl refl h

-- the test of 0
pub zero_test_is : (value : ℚ) (answer test : Bool) → is_zero_value value ≡ test → IsTrue answer ↔ (value ≡ zeroℚ) → answer ≡ test
zero_test_is value true true e h = refl
zero_test_is value false false e h = refl
zero_test_is value true false e h = search (rules, zero_is_zero, e, h)
zero_test_is value false true e h = let zero = zero_of_test value e in search (rules, zero, h)

-- the test of 0 on the value is that on the text
pub zero_read : (text : List ℕ) (value : ℚ) (answer : Bool) → value_of (numeral_of text) ≡ Some value → IsTrue answer ↔ (value ≡ zeroℚ) → answer ≡ is_zero (numeral_of text)
zero_read text value answer e h = zero_test_is value answer (is_zero_value value) refl h ∙ sym (value_zero text value e)

-- ---- bounds

-- a size of 10^20 or more
pub far_read : (value far size : ℚ) (answer : Bool) → far ≡ integer (pos 100000000000000000000) → size ≡ absolute value → answer ≡ is_le (compare_rational far size) → answer ≡ is_far_value value
far_read value far size answer is_far is_size is_answer = rw (is_answer, is_le-compare far size, is_far, is_size) refl

-- a value below 0
negative_test_is : (value : ℚ) (answer test : Bool) → lt_test value zeroℚ ≡ test → IsTrue answer ↔ (value <ℚ zeroℚ) → answer ≡ test
negative_test_is value true true e h = refl
negative_test_is value false false e h = refl
negative_test_is value true false e h = let below : lt_test value zeroℚ ≡ true = test_of_lt (h.0 refl) in cc
negative_test_is value false true e h = h.1 (lt_of_test e)

-- a number above the range
huge_is : (numeral : Numeral) → is_huge numeral ≡ true → numeral ≡ Huge (is_negative numeral)
huge_is (Exact negative size below) h = cc
huge_is NotANumber h = cc
huge_is (Huge negative) h = refl
huge_is TooFine h = cc

-- a text that doesn't say infinity
not_infinite : (text : List ℕ) → is_infinity text ≡ false → bound_number text ≡ near_or_huge (numeral_of text)
not_infinite text h = rw h refl

-- a bound of size 10^20 or more is none
pub far_bound : (text : List ℕ) (value : ℚ) (negative : Bool) → is_infinity text ≡ false → value_of (numeral_of text) ≡ Some value → is_far_value value ≡ true → IsTrue negative ↔ (value <ℚ zeroℚ) → bound_number text ≡ Huge negative
far_bound text value negative finite e far h =
    not_infinite text finite ∙ huge_is (near_or_huge (numeral_of text)) (value_far text value e ∙ far)
    ∙ ap Huge (value_bound_negative text value e ∙ sym (negative_test_is value negative (is_negative_value value) refl h))

-- any other bound has its value
pub near_bound : (text : List ℕ) (value : ℚ) → is_infinity text ≡ false → value_of (numeral_of text) ≡ Some value → is_far_value value ≡ false → value_of (bound_number text) ≡ Some value
near_bound text value finite e near = rw (not_infinite text finite, value_bound text value e, near) refl

-- a bound with a value has that of its text
value_near : (numeral : Numeral) (value : ℚ) → value_of (near_or_huge numeral) ≡ Some value → value_of numeral ≡ Some value
value_near (Exact negative size below) value h = near (nat_le (10 ^ 20 * below) size) h
  where
    near : (far : Bool) → value_of (if far then Huge negative else Exact negative size below) ≡ Some value → value_of (Exact negative size below) ≡ Some value
    near true h = cc
    near false h = h
value_near NotANumber value h = h
value_near (Huge negative) value h = h
value_near TooFine value h = h

negative_bound : (text : List ℕ) (value : ℚ) (infinite : Bool) → is_infinity text ≡ infinite → value_of (if infinite then Huge (is_minus text) else near_or_huge (numeral_of text)) ≡ Some value → is_negative (if infinite then Huge (is_minus text) else near_or_huge (numeral_of text)) ≡ is_negative_value value
negative_bound text value true e h = cc
negative_bound text value false e h = value_bound_negative text value (value_near (numeral_of text) value h)

-- the sign of a bound with a value
pub negative_read : (text : List ℕ) (value : ℚ) (answer : Bool) → value_of (bound_number text) ≡ Some value → IsTrue answer ↔ (value <ℚ zeroℚ) → answer ≡ is_negative (bound_number text)
negative_read text value answer e h =
    negative_test_is value answer (is_negative_value value) refl h ∙ sym (negative_bound text value (is_infinity text) refl e)

-- a value above 0
positive_test_is : (value : ℚ) (answer test : Bool) → lt_test zeroℚ value ≡ test → IsTrue answer ↔ (zeroℚ <ℚ value) → answer ≡ test
positive_test_is value true true e h = refl
positive_test_is value false false e h = refl
positive_test_is value true false e h = let above : lt_test zeroℚ value ≡ true = test_of_lt (h.0 refl) in cc
positive_test_is value false true e h = h.1 (lt_of_test e)

-- a bound with a value isn't far
not_far : (value : ℚ) (far above : Bool) → (if far then None else Some value) ≡ Some value → (not far && above) ≡ above
not_far value true above e = cc
not_far value false above e = refl

positive_bound : (text : List ℕ) (value : ℚ) (infinite : Bool) → is_infinity text ≡ infinite → value_of (if infinite then Huge (is_minus text) else near_or_huge (numeral_of text)) ≡ Some value → is_positive (if infinite then Huge (is_minus text) else near_or_huge (numeral_of text)) ≡ is_positive_value value
positive_bound text value true e h = cc
positive_bound text value false e h =
    let near = value_near (numeral_of text) value h in
    value_bound_positive text value near ∙ not_far value (is_far_value value) (is_positive_value value) (sym (value_bound text value near) ∙ h)

-- whether a bound with a value is above 0
pub positive_read : (text : List ℕ) (value : ℚ) (answer : Bool) → value_of (bound_number text) ≡ Some value → IsTrue answer ↔ (zeroℚ <ℚ value) → answer ≡ is_positive (bound_number text)
positive_read text value answer e h =
    positive_test_is value answer (is_positive_value value) refl h ∙ sym (positive_bound text value (is_infinity text) refl e)
