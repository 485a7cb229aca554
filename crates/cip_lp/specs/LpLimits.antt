-- Values of bounds, as the code keeps them: where there is none, the sign of infinity.
use Rattle.std.specs.Prelude.{Bool, Option, None, Some}
use Rattle.cip_rational.specs.Rational.{ℚ}
use Rattle.cip_text_rules.specs.LpPlaces as places
use Rattle.cip_lp.specs.declared.numbers.Limit.{Limit}

-- the value of a bound
abbrev pub limit_from : Bool → Option ℚ → places.Limit
limit_from minus None = places.Far minus
limit_from minus (Some value) = places.Near value

abbrev pub limit_shown : Limit → places.Limit
limit_shown limit = limit_from limit.minus limit.value
