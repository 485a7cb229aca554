-- What true figures say of a program, one by one: the point, the bound, and that both agree; and the ray.
use Rattle.std.specs.Prelude.{◌≡◌, Bool, true, false, List, Some}
use Rattle.cip_rational.specs.Rational.{ℚ, ◌<ℚ◌}
use Rattle.cip_search.specs.Program.{Program}
use Rattle.cip_search.specs.Points.{IsFeasible, cost_of, printed}
use Rattle.cip_search.specs.Falling.{FallsWithoutEnd}
use Rattle.cip_search.specs.Figures.{Figures, Held}

-- a printed cost is better than another: it is more where the program maximises, and less where it minimises
abbrev pub IsBetter : (maximized : Bool) → ℚ → ℚ → Type 0
IsBetter true cost other = other <ℚ cost
IsBetter false cost other = cost <ℚ other

-- the cost of a point as it is printed
abbrev pub printed_cost : Program → List ℚ → ℚ
printed_cost program point = printed program (cost_of program point)

-- the printed point is feasible, and the printed cost is its cost
pub record IsTruePoint (program : Program) (held : Held) : Type 0 where
  pub feasible : IsFeasible program held.point
  pub cost : held.cost ≡ printed_cost program held.point

-- no feasible point is better than the printed bound
abbrev pub IsTrueBound : Program → ℚ → Type 0
IsTrueBound program bound =
    (point : List ℚ) → IsFeasible program point → ¬ IsBetter program.maximized (printed_cost program point) bound

-- the printed cost and the printed bound are equal
pub record Agree (figures : Figures) : Type 0 where
  pub held : Held
  pub is_held : figures.held ≡ Some held
  pub bound : figures.bound ≡ Some held.cost

-- a ray is shown: a point is printed, and from there the cost falls without end along the printed ray
pub record ShowsRay (program : Program) (figures : Figures) (ray : List ℚ) : Type 0 where
  pub held : Held
  pub is_held : figures.held ≡ Some held
  pub falls : FallsWithoutEnd program held.point ray
