-- The bound that a search begins with.
use Rattle.std.specs.Prelude.{Bool, Option, None, Some, if◌then◌else◌}
use Rattle.cip_rational.specs.Rational.{ℚ, integer, ceil}
use Rattle.cip_lin.specs.declared.outcomes.Least.{Least}
use Rattle.cip_lin.specs.declared.outcomes.Least.TheVariants.{Value, NoBound, Wide}

-- a least cost, if it has a value
abbrev pub least_value : Least → Option ℚ
least_value (Value value) = Some value
least_value NoBound = None
least_value Wide = None

-- a bound, rounded up where costs are whole
abbrev pub rounded_if : (are_whole : Bool) → ℚ → ℚ
rounded_if are_whole bound = if are_whole then integer (ceil bound) else bound
