-- The least-number rule of the simplex method with sides (Bland 1977), from any state.
--     crossed sides             where a variable's low side is above its high one, the state is an end
--     a variable outside        the least basic variable outside its sides leaves to the side that it breaks, and the
--                               least nonbasic one that may bring it nearer enters; where none may, the state is an end
--     none outside              the least nonbasic variable that may let the cost fall enters; where none may, the
--                               state is an end. It goes the shortest way to a side, its own (a flip) or a basic
--                               variable's (an exchange), of equal ways that of the least variable; where no way ends
--                               at a side, the state is an end
use Rattle.std.specs.Prelude.{ℕ, zero, suc, ◌==◌, Bool, true, false, ◌&&◌, not, Option, None, Some, if◌then◌else◌}
use Rattle.cip_rational.specs.Rational.{ℚ, lt_test, is_zero}
use Rattle.cip_bland.specs.Program.{Sides}
use Rattle.cip_bland.specs.Box.{sides_at, sides_equal, at_least, is_between}
use Rattle.cip_bland.specs.Tables.{least}
use Rattle.cip_bland.specs.Dictionary.{Dictionary, size, stand, is_basic, entry, cost_entry, value}
use Rattle.cip_bland.specs.Exchange.{step, way}
use Rattle.cip_bland.specs.declared.moves.Stand.{Stand}
use Rattle.cip_bland.specs.declared.moves.Move.{Move}
use Rattle.cip_bland.specs.declared.moves.Move.TheVariants.{Exchange, Flip}
use Rattle.cip_bland.specs.Headings.{back_of, along, heading_for, stand_ahead, is_ahead, goal_ahead}
use Rattle.cip_bland.specs.declared.steps.Heading.{Heading}
use Rattle.cip_bland.specs.declared.steps.Heading.TheVariants.{Up, Down}
use Rattle.cip_bland.specs.declared.steps.Step.{Step}
use Rattle.cip_bland.specs.declared.steps.Step.TheVariants.{Crossed, Infeasible, Optimum, Ray, Makes}

-- ---- what is wrong with a variable

-- the low side is above the high one
abbrev pub sides_cross : Option ℚ → Option ℚ → Bool
sides_cross None high = false
sides_cross (Some low) None = false
sides_cross (Some low) (Some high) = lt_test high low

abbrev pub is_crossed : Dictionary → ℕ → Bool
is_crossed d v = sides_cross (sides_at d.sides v).low (sides_at d.sides v).high

-- a basic variable is outside its sides
abbrev pub is_outside : Dictionary → ℕ → Bool
is_outside d v =
    is_basic d v && not (is_between (sides_at d.sides v).low (sides_at d.sides v).high (value d v))

-- the heading by which a value outside left its sides: up where it is above the high one, down where it is below the
-- low one
abbrev pub outside_with : Sides → ℚ → Heading
outside_with sides value = if at_least sides.low value then Up else Down

abbrev pub outside_heading : Dictionary → ℕ → Heading
outside_heading d i = outside_with (sides_at d.sides i) (value d i)

-- ---- which variable enters

-- a variable with these sides, which stands there, may go with this heading: it is nonbasic, its sides aren't equal,
-- and it isn't at the side ahead
abbrev pub may_go_from : Sides → Option Stand → Heading → Bool
may_go_from sides None heading = false
may_go_from sides (Some at) heading = not (sides_equal sides.low sides.high) && not (is_ahead heading at)

abbrev pub may_go : Dictionary → ℕ → Heading → Bool
may_go d k heading = may_go_from (sides_at d.sides k) (stand d k) heading

-- a form with these entries goes with this heading as variable k goes where it may
abbrev pub drives : Dictionary → (ℕ → ℚ) → Heading → ℕ → Bool
drives d row heading k = not (is_zero (row k)) && may_go d k (heading_for heading (row k))

-- i, which is outside, comes nearer to its side as variable k goes where it may
abbrev pub repairs : Dictionary → ℕ → ℕ → Bool
repairs d i = drives d (entry d i) (back_of (outside_heading d i))

-- the cost falls as variable k goes where it may
abbrev pub improves : Dictionary → ℕ → Bool
improves d = drives d (cost_entry d) Down

-- ---- ways of j, which lets the cost fall

-- the heading of j
abbrev pub falling_heading : Dictionary → ℕ → Heading
falling_heading d j = heading_for Down (cost_entry d j)

-- a way of j to a side: that of this variable, and how far j goes until the variable is there
pub record Way : Type 0 where
  pub variable : ℕ
  pub to : Stand
  pub length : ℚ

-- the stand at the side to which a variable goes as j goes with this heading, if that side is there: j goes so itself,
-- and a basic variable by its entry, if that isn't 0
abbrev pub goal_with : Bool → Bool → Heading → ℚ → Sides → Option Stand
goal_with true basic heading a sides = goal_ahead heading sides
goal_with false true heading a sides = if is_zero a then None else goal_ahead (heading_for heading a) sides
goal_with false false heading a sides = None

abbrev pub goal_of : Dictionary → ℕ → ℕ → Option Stand
goal_of d j v = goal_with (v == j) (is_basic d v) (falling_heading d j) (entry d v j) (sides_at d.sides v)

-- the way of a flip is to the other side of j, and that of an exchange is by how much j then moves
abbrev pub length_of : Dictionary → ℕ → ℕ → Stand → ℚ
length_of d j v to = along (falling_heading d j) (if v == j then way d j else step d v j to)

abbrev pub way_with : Dictionary → ℕ → ℕ → Option Stand → Option Way
way_with d j v None = None
way_with d j v (Some to) = Some (record { variable = v; to = to; length = length_of d j v to })

-- the way of j to the side of variable v
abbrev pub way_of : Dictionary → ℕ → ℕ → Option Way
way_of d j v = way_with d j v (goal_of d j v)

-- the shorter of two ways, the first where they are equal
abbrev pub shorter : Option Way → Option Way → Option Way
shorter None other = other
shorter (Some way) None = Some way
shorter (Some way) (Some other) = if lt_test other.length way.length then Some other else Some way

-- the shortest of the ways of the numbers below n, of equal ones the first
abbrev pub shortest : ℕ → (ℕ → Option Way) → Option Way
shortest zero ways = None
shortest (suc n) ways = shorter (shortest n ways) (ways n)

-- ---- the step

-- the move by which j goes a way
abbrev pub move_by : ℕ → Way → Move
move_by j way = if way.variable == j then Flip j else Exchange way.variable j way.to

abbrev pub going : ℕ → Option Way → Step
going j None = Ray j
going j (Some way) = Makes (move_by j way)

-- none is outside; the variable named is the least one that improves
abbrev pub improving : Dictionary → Option ℕ → Step
improving d None = Optimum
improving d (Some j) = going j (shortest (size d) (way_of d j))

-- i is outside; the variable named is the least one that repairs it
abbrev pub repairing : Dictionary → ℕ → Option ℕ → Step
repairing d i None = Infeasible i
repairing d i (Some j) = Makes (Exchange i j (stand_ahead (outside_heading d i)))

-- no sides are crossed; the variable named is the least one outside
abbrev pub step_inside : Dictionary → Option ℕ → Step
step_inside d None = improving d (least (size d) (improves d))
step_inside d (Some i) = repairing d i (least (size d) (repairs d i))

-- the least variable outside
abbrev pub least_outside : Dictionary → Option ℕ
least_outside d = least (size d) (is_outside d)

-- the variable named is the least one whose sides are crossed
abbrev pub step_of : Dictionary → Option ℕ → Step
step_of d (Some v) = Crossed v
step_of d None = step_inside d (least_outside d)

-- the step at a state
abbrev pub next : Dictionary → Step
next d = step_of d (least (size d) (is_crossed d))
