-- What an answer of pricing says of mixtures and of points.
use Rattle.std.specs.Prelude.{List, Some, ⊤}
use Rattle.cip_rational.specs.Rational.{ℚ, ◌≤ℚ◌}
use Rattle.cip_problem.specs.Box.{IsInBox}
use Rattle.cip_problem.specs.Points.{IsFeasible, cost_of}
use Rattle.cip_pricing.specs.LeastCosts.{IsLeastMixture}
use Rattle.cip_columns.specs.PoolPoints.{PoolPoint}
use Rattle.cip_lagrange.specs.Decompositions.{owners_in}
use Rattle.cip_master.specs.MasterTasks.{Task, held_by}
use Rattle.cip_master.specs.MasterAnswers.{point_of, IsMixedOf}
use Rattle.cip_master.specs.declared.answers.Weights.{Weights}
use Rattle.cip_price.specs.OfferedPoints.{Grows}
use Rattle.cip_price.specs.declared.answers.PriceAnswer.{PriceAnswer}
use Rattle.cip_price.specs.declared.answers.PriceAnswer.TheVariants.{Closed, Bounded, NoPoint, NoBound}

-- a task with these points held
abbrev pub holding : Task → List PoolPoint → Task
holding task points = record task { points = points }

-- the weights are a mixture of the points that were held then, the first ones of those that are held now; it satisfies
-- the master rows and costs the bound, and no mixture of any points that satisfies them costs less
pub record IsLeast (task : Task) (points : List PoolPoint) (weights : Weights) (bound : ℚ) : Type 0 where
  pub held : List PoolPoint
  pub grows : Grows held points
  pub mixed_of : IsMixedOf (holding task held) weights
  pub least : IsLeastMixture task.program (owners_in task.kept) task.box (Some (held_by (holding task held)))
      (point_of (holding task held) weights) bound

-- no feasible point in the box costs less; none lies there
abbrev pub BoundsBox : Task → ℚ → Type 0
BoundsBox task bound =
    (point : List ℚ) → IsFeasible task.program point → IsInBox task.box point → bound ≤ℚ cost_of task.program point

abbrev pub EmptiesBox : Task → Type 0
EmptiesBox task = (point : List ℚ) → IsFeasible task.program point → ¬ IsInBox task.box point

-- what an answer says, where these points are held at the end
abbrev pub PriceHolds : Task → List PoolPoint → PriceAnswer → Type 0
PriceHolds task points (Closed bound weights) = IsLeast task points weights bound × BoundsBox task bound
PriceHolds task points (Bounded bound cause) = BoundsBox task bound
PriceHolds task points NoPoint = EmptiesBox task
PriceHolds task points (NoBound cause) = ⊤
