-- Choices that are made, what is kept of one that is open, and the test of a value that a choice allows.
use Rattle.std.specs.Prelude.{Bool, true, false, ◌||◌, Option, None, Some}
use Rattle.cip_frac.specs.Rational.{ℚ, zeroℚ}
use Rattle.cip_frac.specs.Order.{same_rational}
use Rattle.cip_problem.specs.Program.{Sides, Choice, Plain, Open, Off, On}
use Rattle.cip_problem.specs.Box.{is_between}

-- a choice that is made
abbrev pub made_choice : Bool → Choice
made_choice true = On
made_choice false = Off

-- the own sides of a column whose choice is open
abbrev pub own_if_open : Choice → Option Sides
own_if_open Plain = None
own_if_open (Open own) = Some own
own_if_open Off = None
own_if_open On = None

-- a choice allows a value: where it is open, that is 0 or lies between the own sides
abbrev pub is_allowed : Choice → ℚ → Bool
is_allowed Plain value = true
is_allowed (Open own) value = same_rational value zeroℚ || is_between own.low own.high value
is_allowed Off value = true
is_allowed On value = true

-- whether a choice is that of a plain column
abbrev pub is_plain : Choice → Bool
is_plain Plain = true
is_plain (Open own) = false
is_plain Off = false
is_plain On = false
