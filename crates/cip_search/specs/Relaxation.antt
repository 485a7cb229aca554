-- The linear program of a node, and bounds that are as good as it gives.
use Rattle.std.specs.Prelude.{List, ◌++◌, Option, Some}
use Rattle.cip_rational.specs.Rational.{ℚ, ◌+ℚ◌}
use Rattle.cip_problem.specs.Program.{Sides, Row, Program}
use Rattle.cip_search.specs.LinearProgram.{LinearProgram, IsPoint, CostsAtLeast}
use Rattle.cip_search.specs.Searched.{NoMore}

-- the linear program of a box: the rows of a program and further ones, the box, and the program's costs
abbrev pub relaxation : Program → List Row → List Sides → LinearProgram
relaxation program rows box = record { rows = program.rows ++ rows; bounds = box; costs = program.costs }

-- a linear program has a point
pub record HasPoint (program : LinearProgram) : Type 0 where
  pub point : List ℚ
  pub is_point : IsPoint program point

-- the linear program of a box isn't infeasible, and what no point of it costs less than, with the constant, is no more
-- than the bound: so the bound is at least its optimum, where there is one
pub record IsRelaxedBound (program : Program) (rows : List Row) (box : List Sides) (bound : Option ℚ) : Type 0 where
  pub feasible : HasPoint (relaxation program rows box)
  pub reached : (least : ℚ) → CostsAtLeast (relaxation program rows box) least
      → NoMore (Some (program.constant +ℚ least)) bound
