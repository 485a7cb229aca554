-- Improving points: the feasible points that are cheaper than the point held; and what holds at each of them in a box.
use Rattle.std.specs.Prelude.{List, Option, None, Some, IfSome, ⊤}
use Rattle.cip_rational.specs.Rational.{ℚ, ◌≤ℚ◌, ◌<ℚ◌}
use Rattle.cip_problem.specs.Program.{Sides, Row, Program}
use Rattle.cip_problem.specs.Box.{IsInBox}
use Rattle.cip_problem.specs.Points.{IsSatisfied, IsFeasible, cost_of}
use Rattle.cip_problem.specs.Aggregate.{Inequality, Holds}

-- a feasible point that costs less than the point held, or any feasible one where none is held
pub record IsImproving (program : Program) (held : Option ℚ) (point : List ℚ) : Type 0 where
  pub feasible : IsFeasible program point
  pub cheaper : IfSome held (λ cost. cost_of program point <ℚ cost)

-- a fact holds of each improving point in a box
abbrev pub HoldsInBox : Program → Option ℚ → List Sides → (List ℚ → Type 0) → Type 0
HoldsInBox program held box Fact = (point : List ℚ) → IsImproving program held point → IsInBox box point → Fact point

-- a row is valid in a box: each improving point in the box satisfies it
abbrev pub IsValidRow : Program → Option ℚ → List Sides → Row → Type 0
IsValidRow program held box row = HoldsInBox program held box (IsSatisfied row)

-- an inequality is valid in a box
abbrev pub IsValid : Program → Option ℚ → List Sides → Inequality → Type 0
IsValid program held box row = HoldsInBox program held box (Holds row)

-- a number is a bound in a box: no improving point in the box costs less
abbrev pub IsBoundIn : Program → Option ℚ → List Sides → ℚ → Type 0
IsBoundIn program held box b = HoldsInBox program held box (λ point. b ≤ℚ cost_of program point)

-- no improving point lies in a box
abbrev pub HasNoImproving : Program → Option ℚ → List Sides → Type 0
HasNoImproving program held box = HoldsInBox program held box (λ point. ⊥)

-- what is held now costs no more than what was held before, if anything was
abbrev pub IsNoDearer : Option ℚ → Option ℚ → Type 0
IsNoDearer now None = ⊤
IsNoDearer None (Some before) = ⊥
IsNoDearer (Some now) (Some before) = now ≤ℚ before
