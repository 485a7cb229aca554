-- What a search begins with.
use Rattle.std.specs.Prelude.{◌≡◌, length}
use Rattle.cip_problem.specs.Program.{Program}
use Rattle.cip_problem.specs.WellFormed.{columns}
use Rattle.cip_solve.specs.Presolved.{Presolved}
use Rattle.cip_solve.specs.Reducing.{IsOfReduced}
use Rattle.cip_solve.specs.Searching.{IsAtRoot}
use Rattle.cip_solve.specs.declared.outsets.Begun.{Begun}

-- a search of what presolve made of a program begins so: no node was taken, and there is room for a point of the
-- program
pub record HasBegunWith (program : Program) (presolved : Presolved) (begun : Begun) : Type 0 where
  pub program_is : begun.work.core.program ≡ program
  pub root : IsAtRoot begun.work.core
  pub back : IsOfReduced begun.work.core presolved
  pub point : length begun.point.items ≡ columns program
