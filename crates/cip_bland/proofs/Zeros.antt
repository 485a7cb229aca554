-- The test of 0, and operations with it.
use Rattle.std.proofs.Common.{◌≡◌, ◌≢◌, true, false, List, ◌++◌, Some, refl, sym, ◌∙◌}
use Rattle.std.proofs.lemmas.Bool.{and_from, false_from_ne_true, true≢false}
use Rattle.cip_rational.specs.Rational.{ℚ, zeroℚ, is_zero}
use Rattle.cip_rational.specs.Range.{product_overflows}
use Rattle.cip_rational.proofs.Rational.Order.{test_of_le, ≤ℚ_of_eq}
use Rattle.cip_bland.specs.Operations.{Placed, first_overflow, sum_at}
use Rattle.cip_bland.specs.declared.places.EntryPlace.{EntryPlace}
use Rattle.cip_problem.proofs.Rows.{zero_of_test}

pub is_zero_of : (q : ℚ) → q ≡ zeroℚ → is_zero q ≡ true
unfolding is_zero
is_zero_of q e = and_from _ _ (test_of_le (≤ℚ_of_eq e)) (test_of_le (≤ℚ_of_eq (sym e)))

pub nonzero_of : (q : ℚ) → is_zero q ≡ false → q ≢ zeroℚ
nonzero_of q e h = true≢false (sym (is_zero_of q h) ∙ e)

pub is_zero_false : (q : ℚ) → q ≢ zeroℚ → is_zero q ≡ false
is_zero_false q h = false_from_ne_true (is_zero q) (λ e. h (zero_of_test q e))

-- a product of two numbers other than 0 is the first that overflows
pub product_first : (place : EntryPlace) (c a b : ℚ) (rest : List Placed) → is_zero a ≡ false → is_zero b ≡ false → product_overflows a b ≡ true → first_overflow (sum_at place c a b ++ rest) ≡ Some place
product_first place c a b rest p q o = rw (p, q, o) refl
