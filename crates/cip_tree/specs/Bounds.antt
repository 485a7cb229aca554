-- Bounds, none of which is less than each that is there.
use Rattle.std.specs.Prelude.{Option, None, Some, ⊤}
use Rattle.cip_rational.specs.Rational.{ℚ, ◌≤ℚ◌}

-- a bound is at most another
abbrev pub IsBoundAtMost : Option ℚ → Option ℚ → Type 0
IsBoundAtMost None bound = ⊤
IsBoundAtMost (Some a) None = ⊥
IsBoundAtMost (Some a) (Some b) = a ≤ℚ b
