-- What the test of a value that a choice allows says.
use Rattle.std.proofs.Common.{◌≡◌, inl, inr, Bool, true, false, ◌||◌, refl, sym, true≢false}
use Rattle.std.proofs.lemmas.Bool.{or_right}
use Rattle.cip_frac.specs.Rational.{ℚ, zeroℚ}
use Rattle.cip_frac.specs.Order.{same_rational, same_from_equal, equal_from_same}
use Rattle.cip_problem.specs.Program.{Sides, Choice, Plain, Open, Off, On}
use Rattle.cip_problem.specs.Box.{is_between}
use Rattle.cip_problem.proofs.Box.SideTests.{between_of_test, test_of_between}
use Rattle.cip_problem.specs.Choices.{Allows}
use Rattle.cip_lin.specs.ChoiceParts.{is_allowed}

either_says : (own : Sides) (value : ℚ) (zero between : Bool) → same_rational value zeroℚ ≡ zero → is_between own.low own.high value ≡ between → (zero || between) ≡ true → Allows (Open own) value
either_says own value true between e f h = inl (equal_from_same value zeroℚ e)
either_says own value false true e f h = inr (between_of_test own.low own.high value f)
either_says own value false false e f h = absurd (true≢false (sym h))

pub allowed_says : (choice : Choice) (value : ℚ) → is_allowed choice value ≡ true → Allows choice value
allowed_says Plain value h = tt
allowed_says (Open own) value h = either_says own value (same_rational value zeroℚ) (is_between own.low own.high value) refl refl h
allowed_says Off value h = tt
allowed_says On value h = tt

pub allowed_from : (choice : Choice) (value : ℚ) → Allows choice value → is_allowed choice value ≡ true
allowed_from Plain value h = refl
allowed_from (Open own) value (inl e) = rw (same_from_equal value zeroℚ e) refl
allowed_from (Open own) value (inr h) = or_right (same_rational value zeroℚ) (is_between own.low own.high value) (test_of_between own.low own.high value h)
allowed_from Off value h = refl
allowed_from On value h = refl
