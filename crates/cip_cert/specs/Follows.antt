-- What follows at a point from a check that accepts.
use Rattle.std.specs.Prelude.{◌≡◌, ℕ, Bool, true, List, IfSome}
use Rattle.std.specs.List.{AllByRecursion}
use Rattle.cip_rational.specs.Rational.{ℚ, ◌≤ℚ◌, IsWhole}
use Rattle.cip_rational.specs.Sums.{dot}
use Rattle.cip_problem.specs.Program.{Sides}
use Rattle.cip_problem.specs.Activity.{value_at}
use Rattle.cip_problem.specs.Box.{IsInBox}
use Rattle.cip_problem.specs.Points.{IsSatisfied, AreWhole}
use Rattle.cip_problem.specs.Aggregate.{Part, AllHoldAt, Inequality, Holds, IsAggregate}
use Rattle.cip_cert.specs.Lent.{Lent}

-- the rows that are lent hold at a point: a row of the pool where the point lies in its scope
pub record RowsHold (lent : Lent) (point : List ℚ) : Type 0 where
  pub own : AllByRecursion (λ row. IsSatisfied row point) lent.own
  pub pool : AllByRecursion (λ kept. IsInBox kept.scope point → IsSatisfied kept.row point) lent.pool
  pub cutoff : IfSome lent.cutoff (λ row. IsSatisfied row point)

-- a fact holds at each point of the box at which the rows hold
abbrev pub FollowsAt : Lent → List Sides → (List ℚ → Type 0) → Type 0
FollowsAt lent box Fact = (point : List ℚ) → RowsHold lent point → IsInBox box point → Fact point

-- an inequality holds there, also rounded where the whole columns have whole values
abbrev pub RowFollows : Lent → List Bool → List Sides → Bool → Inequality → Type 0
RowFollows lent integral box round row =
    FollowsAt lent box (λ point. (round ≡ true → AreWhole integral point) → Holds row point)

-- costs come to at least this number there
abbrev pub BoundFollows : Lent → List Sides → List ℚ → ℚ → Type 0
BoundFollows lent box costs b = FollowsAt lent box (λ point. b ≤ℚ dot costs point)

-- there is no such point
abbrev pub EmptinessFollows : Lent → List Sides → Type 0
EmptinessFollows lent box = FollowsAt lent box (λ point. ⊥)

-- a column's value is at least, or at most, this number there, where it is whole if the column is
abbrev pub LowFollows : Lent → List Sides → ℕ → Bool → ℚ → Type 0
LowFollows lent box column whole value =
    FollowsAt lent box (λ point. (whole ≡ true → IsWhole (value_at point column)) → value ≤ℚ value_at point column)

abbrev pub HighFollows : Lent → List Sides → ℕ → Bool → ℚ → Type 0
HighFollows lent box column whole value =
    FollowsAt lent box (λ point. (whole ≡ true → IsWhole (value_at point column)) → value_at point column ≤ℚ value)

-- an inequality is the sum of parts that hold there
pub record IsSum (lent : Lent) (box : List Sides) (columns : ℕ) (row : Inequality) : Type 0 where
  pub parts : List Part
  pub sum : IsAggregate columns parts row
  pub kept : FollowsAt lent box (AllHoldAt parts)
