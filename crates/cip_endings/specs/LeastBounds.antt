-- The least of bounds, of which none is less than each that is there.
use Rattle.std.specs.Prelude.{Bool, true, false, Option, None, Some, if◌then◌else◌, option_map}
use Rattle.cip_rational.specs.Rational.{ℚ, le_test}

-- a bound is at most another
abbrev pub is_no_more : Option ℚ → Option ℚ → Bool
is_no_more None other = true
is_no_more (Some bound) None = false
is_no_more (Some bound) (Some other) = le_test bound other

abbrev pub less_of : Option ℚ → Option ℚ → Option ℚ
less_of bound other = if is_no_more bound other then bound else other

-- of two bounds each of which need not be there at all
abbrev pub least_of : Option (Option ℚ) → Option (Option ℚ) → Option (Option ℚ)
least_of None other = other
least_of (Some bound) None = Some bound
least_of (Some bound) (Some other) = Some (less_of bound other)

-- the cost held as a bound
abbrev pub bound_held : Option ℚ → Option (Option ℚ)
bound_held held = option_map Some held

-- a bound, or the cost held where that is less
abbrev pub capped : Option ℚ → Option ℚ → Option ℚ
capped None bound = bound
capped (Some cost) bound = less_of bound (Some cost)

-- a bound, none where there is none at all
abbrev pub flat : Option (Option ℚ) → Option ℚ
flat None = None
flat (Some bound) = bound
