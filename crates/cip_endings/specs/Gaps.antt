-- Whether a gap that was asked for is reached, as it is tested.
use Rattle.std.specs.Prelude.{Bool, false, not, ◌&&◌, Option, None, Some}
use Rattle.cip_rational.specs.Rational.{ℚ, ◌-ℚ◌, lt_test, le_test}
use Rattle.cip_rational.specs.Range.{difference_overflows}

-- the cost less the bound is in range, above 0 and at most the gap
abbrev pub is_near_enough : (gap cost bound : ℚ) → Bool
is_near_enough gap cost bound =
    not (difference_overflows cost bound) && (lt_test bound cost && le_test (cost -ℚ bound) gap)

-- so it is, where a gap was asked for, a point is held, and there is a bound
abbrev pub reaches_gap : (asked held bound : Option ℚ) → Bool
reaches_gap None held bound = false
reaches_gap (Some gap) None bound = false
reaches_gap (Some gap) (Some cost) None = false
reaches_gap (Some gap) (Some cost) (Some bound) = is_near_enough gap cost bound
