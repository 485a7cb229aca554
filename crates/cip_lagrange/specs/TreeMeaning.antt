-- What the answer of a tree says of points.
use Rattle.std.specs.Prelude.{◌≡◌, ◌↔◌, ◌≤◌, ◌^◌, ℤ, pos, ◌+ℤ◌, unsigned_abs, Bool, true, List, [], Option, None, Some}
use Rattle.cip_rational.specs.Rational.{ℚ, integer, ◌≤ℚ◌}
use Rattle.cip_rational.specs.Sums.{dot}
use Rattle.cip_problem.specs.Program.{Sides, Row}
use Rattle.cip_problem.specs.Wholes.{HasWhole}
use Rattle.cip_problem.specs.Log.{Node}
use Rattle.cip_pricing.specs.TreeBounds.{IsNodePoint, IsTreeBound}
use Rattle.cip_cert.specs.Lent.{Lent}
use Rattle.cip_cert.specs.Follows.{RowsHold}
use Rattle.cip_lagrange.specs.declared.answers.TreeBound.{TreeBound}
use Rattle.cip_lagrange.specs.declared.answers.TreeBound.TheVariants.{Finite, NoPoint}
use Rattle.cip_lagrange.specs.TreeOutcomes.{can_halve}

-- the points of a node at which the rows hold, whose whole columns have whole values and whose values the choices
-- allow, cost at least the bound; where it is that there is no point, there is none
abbrev pub TreeFollows : Lent → List Bool → List ℚ → Node → TreeBound → Type 0
TreeFollows lent integral costs node (Finite bound) =
    (point : List ℚ) → RowsHold lent point → IsNodePoint [] integral node point → bound ≤ℚ dot costs point
TreeFollows lent integral costs node NoPoint =
    (point : List ℚ) → RowsHold lent point → ¬ IsNodePoint [] integral node point

-- an answer as a number, if there is one
abbrev pub number_of : TreeBound → Option ℚ
number_of (Finite bound) = Some bound
number_of NoPoint = None

-- rows alone, without a pool and without a cutoff row
abbrev pub own_rows : List Row → Lent
own_rows rows = record { own = rows; pool = []; cutoff = None }

-- over rows alone, what a tree's answer says is a bound of the node's points
abbrev pub TreesBoundNodes : Type 0
TreesBoundNodes =
    (rows : List Row) (integral : List Bool) (costs : List ℚ) (node : Node) (bound : TreeBound)
    → TreeFollows (own_rows rows) integral costs node bound
    → IsTreeBound rows integral costs node (number_of bound)

-- sides can be halved at a number exactly where that has a size of at most 2^101, and each half has a whole value
pub record CanBeHalved (sides : Sides) (at : ℤ) : Type 0 where
  pub near : unsigned_abs at ≤ 2 ^ 101
  pub low : HasWhole (record { low = sides.low; high = Some (integer at) })
  pub high : HasWhole (record { low = Some (integer (at +ℤ pos 1)); high = sides.high })

abbrev pub HalvesHaveWholes : Type 0
HalvesHaveWholes = (sides : Sides) (at : ℤ) → (can_halve sides at ≡ true) ↔ CanBeHalved sides at
