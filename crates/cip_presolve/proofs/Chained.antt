-- Steps one after another, and ends that are open.
use Rattle.std.specs.Prelude.{◌≡◌, Result, Ok, Err, IfOk}
use Rattle.std.proofs.Common.{sym, subst}
use Rattle.cip_problem.specs.Program.{Program}
use Rattle.cip_presolve.specs.RoundEnds.{RoundEndsRightly}
use Rattle.cip_presolve.specs.declared.row_looks.RoundEnd.{RoundEnd}
use Rattle.cip_presolve.specs.declared.row_looks.RoundEnd.TheVariants.{Open}
use Rattle.cip_search.proofs.Pairing.{exact_step, step_after, exact_after, exact_self}
use Rattle.cip_presolve.proofs.Planned.{stays_step}

-- an open end is right of every program
pub open_ends : {E : Type 0} (program : Program) (result : Result RoundEnd E) → IfOk result (λ end. end ≡ Open) → IfOk result (RoundEndsRightly program)
open_ends program (Ok end) e = subst (RoundEndsRightly program) (sym e) tt
open_ends program (Err error) e = tt

pub ruleset chains = (exact_self, exact_after, open_ends)

pub ruleset dual_chains = (stays_step, exact_step, step_after, open_ends)
