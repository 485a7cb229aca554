-- A reduced program leads back.
use Rattle.std.proofs.Common.{Bool, List, sym, subst}
use Rattle.cip_problem.specs.Program.{Program}
use Rattle.cip_problem.specs.WellFormed.{IsWellFormed}
use Rattle.cip_search.specs.Leaf.{at_wholes}
use Rattle.cip_search.specs.SearchState.{IsWayBack}
use Rattle.cip_presolve.specs.WholeParts.{with_wholes}
use Rattle.cip_presolve.proofs.PassedOn.{pair_way_back}
use Rattle.cip_presolve.specs.StepsBack.{StepsTaken, point_back, old_number, whole_of_left, way_back}
use Rattle.cip_presolve.specs.declared.left_programs.Presolved.{Presolved}
use Rattle.cip_presolve.specs.PresolvedPrograms.{IsPresolved}
use Rattle.cip_core.specs.CoreStates.{IsReducedBy}

-- what presolve made of a program is reduced by its steps
pub presolved_reduces : (program : Program) (presolved : Presolved) → IsPresolved program presolved → IsReducedBy program presolved.reduced presolved.steps
presolved_reduces program presolved p = record { pair = p.pair; whole = p.numbers.whole; left = p.numbers.left; leaves = p.leaves }

-- and leads back
pub way_led : (program reduced : Program) (steps : StepsTaken) → IsWellFormed program → IsWellFormed reduced → IsReducedBy program reduced steps → IsWayBack program reduced (way_back steps)
way_led program reduced steps formed left r =
    subst (λ (ws : List Bool). IsWayBack program reduced (record { point = point_back steps; leaf = λ values. at_wholes ws (point_back steps (with_wholes (whole_of_left steps) values)) })) (sym r.whole)
    (subst (λ (ws : List Bool). IsWayBack program reduced (record { point = point_back steps; leaf = λ values. at_wholes program.integral (point_back steps (with_wholes ws values)) })) (sym r.left)
    (pair_way_back program reduced (point_back steps) (old_number steps) formed left r.pair))

pub presolved_way : (program : Program) (presolved : Presolved) → IsWellFormed program → IsWellFormed presolved.reduced → IsPresolved program presolved → IsWayBack program presolved.reduced (way_back presolved.steps)
presolved_way program presolved formed left p =
    way_led program presolved.reduced presolved.steps formed left (presolved_reduces program presolved p)
