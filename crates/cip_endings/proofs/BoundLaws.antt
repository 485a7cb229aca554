-- What the tests of bounds tell.
use Rattle.std.proofs.Common.{◌≡◌, true, false, Option, None, Some, sym, ◌∙◌, true≢false}
use Rattle.cip_rational.specs.Rational.{ℚ}
use Rattle.cip_rational.proofs.Rational.Order.{le_of_test, test_of_le, lt_of_le_test, ≤ℚ_of_lt}
use Rattle.cip_search.specs.Searched.{NoMore}
use Rattle.cip_endings.specs.LeastBounds.{is_no_more}

pub no_more_tells : (bound other : Option ℚ) → is_no_more bound other ≡ true → NoMore bound other
no_more_tells None other e = tt
no_more_tells (Some bound) None e = absurd (true≢false (sym e))
no_more_tells (Some bound) (Some other) e = le_of_test e

pub more_tells : (bound other : Option ℚ) → is_no_more bound other ≡ false → ¬ NoMore bound other
more_tells None other e n = true≢false e
more_tells (Some bound) None e n = n
more_tells (Some bound) (Some other) e n = true≢false (sym (test_of_le n) ∙ e)

-- then the other one is no more
pub more_below : (bound other : Option ℚ) → is_no_more bound other ≡ false → NoMore other bound
more_below None other e = absurd (true≢false e)
more_below (Some bound) None e = tt
more_below (Some bound) (Some other) e = ≤ℚ_of_lt (lt_of_le_test e)
