-- What may be searched in place of a program.
use Rattle.std.proofs.Common.{Bool, sym, subst}
use Rattle.cip_problem.specs.Program.{Program}
use Rattle.cip_solve.specs.Presolved.{Presolved}
use Rattle.cip_solve.specs.PresolvedPrograms.{IsPresolved, IsUnchanged}
use Rattle.cip_solve.specs.Beginning.{AreNearColumns}
use Rattle.cip_solve.specs.Reducing.{CanBeSearched}

pub itself_searched : (presolve : Bool) (program : Program) (presolved : Presolved) → AreNearColumns program → IsPresolved program presolved → IsUnchanged program presolved → CanBeSearched presolve program presolved
itself_searched presolve program presolved near b u = record {
  back = b;
  near = subst AreNearColumns (sym u.reduced) near;
  same = λ e. u;
}
