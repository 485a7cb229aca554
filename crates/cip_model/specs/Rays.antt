-- Rays of a program: directions in which whole columns don't change, each bound and each row is kept, however far one
-- goes, and the cost falls. A ray is shown beside a point that is found to be feasible, where no sum of its test
-- overflows: these go by rising column, from 0, each product before its sum.
use Rattle.std.specs.Prelude.{◌≡◌, Bool, true, List, length, IsErr}
use Rattle.std.specs.List.{AllZip, AllByRecursion}
use Rattle.cip_rational.specs.Rational.{ℚ, zeroℚ, ◌<ℚ◌}
use Rattle.cip_rational.specs.Sums.{dot}
use Rattle.cip_problem.specs.Program.{Program}
use Rattle.cip_problem.specs.Activity.{activity}
use Rattle.cip_problem.specs.Points.{cost_of}
use Rattle.cip_problem.specs.WellFormed.{IsWellFormed, columns}
use Rattle.cip_problem.specs.LinearProgram.{StaysBetween}
use Rattle.cip_problem.specs.Falling.{FallsWithoutEnd}
use Rattle.cip_frac.specs.Outcomes.{dot_from}
use Rattle.cip_model.specs.declared.verdicts.Place.{Place}
use Rattle.cip_model.specs.declared.verdicts.Place.TheVariants.{Row as AtRow, Cost}
use Rattle.cip_model.specs.declared.verdicts.Verdict.TheVariants.{Feasible}
use Rattle.cip_model.specs.Meaning.{RowOverflows}
use Rattle.cip_model.specs.Verdicts.{verdict_of}

-- whole columns don't change
abbrev pub AreStill : List Bool → List ℚ → Type 0
AreStill integral ray = AllZip (λ whole change. whole ≡ true → change ≡ zeroℚ) integral ray

-- a ray, by exact arithmetic
pub record IsRay (program : Program) (ray : List ℚ) : Type 0 where
  pub within : AllZip (λ sides change. StaysBetween sides.low sides.high change) program.bounds ray
  pub still : AreStill program.integral ray
  pub rows : AllByRecursion (λ row. StaysBetween row.low row.high (activity row.terms ray)) program.rows
  pub falls : dot program.costs ray <ℚ zeroℚ

-- an operation overflows as the change of the row of this number, or that of the cost, is summed up
abbrev pub RayOverflows : Program → List ℚ → Place → Type 0
RayOverflows program ray (AtRow number) = RowOverflows program.rows ray number
RayOverflows program ray Cost = IsErr (dot_from zeroℚ program.costs ray)

-- none does
abbrev pub RaySumsFit : Program → List ℚ → Type 0
RaySumsFit program ray = (place : Place) → ¬ RayOverflows program ray place

-- a ray is shown beside a point
pub record IsShownRay (program : Program) (point ray : List ℚ) : Type 0 where
  pub feasible : verdict_of program point ≡ Feasible (cost_of program point)
  pub is_ray : IsRay program ray
  pub fits : RaySumsFit program ray

-- where a ray is shown beside a point, the cost falls without end along it from there
abbrev pub ShownRaysFall : Type 0
ShownRaysFall =
    (program : Program) (point ray : List ℚ)
    → IsWellFormed program → length point ≡ columns program → IsShownRay program point ray
    → FallsWithoutEnd program point ray
