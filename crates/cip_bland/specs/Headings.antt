-- Which way a value goes, up or down, and the side that lies that way.
use Rattle.std.specs.Prelude.{Bool, true, false, Option, None, Some, is_some, if◌then◌else◌}
use Rattle.cip_rational.specs.Rational.{ℚ, negate, zeroℚ, lt_test}
use Rattle.cip_bland.specs.Program.{Sides}
use Rattle.cip_bland.specs.declared.moves.Stand.{Stand}
use Rattle.cip_bland.specs.declared.moves.Stand.TheVariants.{Low, High, Zero}
use Rattle.cip_bland.specs.declared.steps.Heading.{Heading}
use Rattle.cip_bland.specs.declared.steps.Heading.TheVariants.{Up, Down}

-- the other heading
abbrev pub back_of : Heading → Heading
back_of Up = Down
back_of Down = Up

-- how far a change goes with a heading: itself upwards, its negative downwards
abbrev pub along : Heading → ℚ → ℚ
along Up change = change
along Down change = negate change

-- the heading of a variable by which its product with a, which isn't 0, goes with this one
abbrev pub heading_for : Heading → ℚ → Heading
heading_for heading a = if lt_test zeroℚ a then heading else back_of heading

-- where a variable stands at the side ahead
abbrev pub stand_ahead : Heading → Stand
stand_ahead Up = High
stand_ahead Down = Low

-- the side ahead
abbrev pub side_ahead : Heading → Sides → Option ℚ
side_ahead Up sides = sides.high
side_ahead Down sides = sides.low

-- a variable at that stand is at the side ahead
abbrev pub is_ahead : Heading → Stand → Bool
is_ahead Up Low = false
is_ahead Up High = true
is_ahead Up Zero = false
is_ahead Down Low = true
is_ahead Down High = false
is_ahead Down Zero = false

-- the stand at the side ahead, if that side is there
abbrev pub goal_ahead : Heading → Sides → Option Stand
goal_ahead heading sides = if is_some (side_ahead heading sides) then Some (stand_ahead heading) else None
