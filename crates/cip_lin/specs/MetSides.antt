-- Sides that leave no value.
use Rattle.std.specs.Prelude.{Bool, false, Option, None, Some}
use Rattle.cip_frac.specs.Rational.{ℚ, lt_test}

-- a low side passes a high one
abbrev pub is_past : Option ℚ → Option ℚ → Bool
is_past None high = false
is_past (Some low) None = false
is_past (Some low) (Some high) = lt_test high low
