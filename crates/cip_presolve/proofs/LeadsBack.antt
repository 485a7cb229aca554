-- The reduced program leads back.
use Rattle.std.proofs.Common.{◌≡◌, Bool, List, sym, subst}
use Rattle.cip_problem.specs.Program.{Program}
use Rattle.cip_problem.specs.WellFormed.{IsWellFormed}
use Rattle.cip_presolve.specs.Leaf.{at_wholes}
use Rattle.cip_presolve.specs.SearchState.{IsWayBack}
use Rattle.cip_search.specs.WholeParts.{with_wholes}
use Rattle.cip_search.specs.Pairs.{IsPair}
use Rattle.cip_search.proofs.Returning.{pair_way_back}
use Rattle.cip_presolve.specs.StepsBack.{StepsTaken, point_back, old_number, whole_of_left, way_back}

pub leads_back : (program reduced : Program) (steps : StepsTaken) → IsWellFormed program → IsWellFormed reduced → IsPair program reduced (point_back steps) (old_number steps) → steps.whole ≡ program.integral → whole_of_left steps ≡ reduced.integral → IsWayBack program reduced (way_back steps)
leads_back program reduced steps formed left pair whole wholes =
    subst (λ (ws : List Bool). IsWayBack program reduced (record { point = point_back steps; leaf = λ values. at_wholes ws (point_back steps (with_wholes (whole_of_left steps) values)) })) (sym whole)
    (subst (λ (ws : List Bool). IsWayBack program reduced (record { point = point_back steps; leaf = λ values. at_wholes program.integral (point_back steps (with_wholes ws values)) })) (sym wholes)
    (pair_way_back program reduced (point_back steps) (old_number steps) formed left pair))
