-- What `<=`, `<` and `==` answer of what `cmp` answers, as the tests of the order.
use Rattle.std.proofs.Common.{◌≡◌, Bool, true, false, cond, not, ◌&&◌, refl, sym, is_le, is_lt, is_eq, Less, Equal, Greater}
use Rattle.std.specs.Ordering.{eq_by_cmp}
use Rattle.cip_rational.specs.Rational.{ℚ, compare_rational, le_test, lt_test}
use Rattle.cip_rational.proofs.Rational.Order.{≤ℚ_of_lt, lt_of_test, test_of_le, le_test_of_lt, le_of_lt_test, lt_test_of_le}

le_cases : (a b : ℚ) (s t : Bool) → lt_test a b ≡ s → lt_test b a ≡ t → is_le (cond s Less (cond t Greater Equal)) ≡ le_test a b
le_cases a b true t h k = sym (test_of_le (≤ℚ_of_lt (lt_of_test h)))
le_cases a b false true h k = sym (le_test_of_lt (lt_of_test k))
le_cases a b false false h k = sym (test_of_le (le_of_lt_test k))

-- `<=`
pub is_le-compare : (a b : ℚ) → is_le (compare_rational a b) ≡ le_test a b
unfolding compare_rational
is_le-compare a b = le_cases a b (lt_test a b) (lt_test b a) refl refl

le_not_cases : (a b : ℚ) (s t : Bool) → lt_test a b ≡ s → lt_test b a ≡ t → is_le (cond s Less (cond t Greater Equal)) ≡ not (lt_test b a)
le_not_cases a b true t h k = rw (lt_test_of_le (≤ℚ_of_lt (lt_of_test h))) refl
le_not_cases a b false true h k = rw k refl
le_not_cases a b false false h k = rw k refl

-- `<=`, by the test of `<` the other way round
pub is_le-not_lt : (a b : ℚ) → is_le (compare_rational a b) ≡ not (lt_test b a)
unfolding compare_rational
is_le-not_lt a b = le_not_cases a b (lt_test a b) (lt_test b a) refl refl

lt_cases : (a b : ℚ) (s t : Bool) → lt_test a b ≡ s → is_lt (cond s Less (cond t Greater Equal)) ≡ lt_test a b
lt_cases a b true t h = sym h
lt_cases a b false true h = sym h
lt_cases a b false false h = sym h

-- `<`
pub is_lt-compare : (a b : ℚ) → is_lt (compare_rational a b) ≡ lt_test a b
unfolding compare_rational
is_lt-compare a b = lt_cases a b (lt_test a b) (lt_test b a) refl

eq_cases : (a b : ℚ) (s t : Bool) → lt_test a b ≡ s → lt_test b a ≡ t → is_eq (cond s Less (cond t Greater Equal)) ≡ (le_test a b && le_test b a)
eq_cases a b true t h k = rw (test_of_le (≤ℚ_of_lt (lt_of_test h)), le_test_of_lt (lt_of_test h)) refl
eq_cases a b false true h k = rw (le_test_of_lt (lt_of_test k)) refl
eq_cases a b false false h k = rw (test_of_le (le_of_lt_test k), test_of_le (le_of_lt_test h)) refl

-- `==`
pub eq_by_cmp-compare : (a b : ℚ) → eq_by_cmp compare_rational a b ≡ (le_test a b && le_test b a)
unfolding compare_rational
eq_by_cmp-compare a b = eq_cases a b (lt_test a b) (lt_test b a) refl refl
