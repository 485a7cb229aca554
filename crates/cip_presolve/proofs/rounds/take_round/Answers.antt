use Rattle.std.proofs.lemmas.Grind.{common_steps}
use Rattle.std.proofs.Common.{arith}
use Rattle.cip_presolve.proofs.rounds.take_round.Goals as goal
use Rattle.cip_search.proofs.Pairing.{exact_step, exact_after, step_after}

pub returns-in_default-clause-step : goal.returns-in_default-clause-step
returns-in_default-clause-step c = exact_step _ _ c.settle.ensures.step

pub returns-clause-step : goal.returns-clause-step
returns-clause-step c =
    step_after _ _ _ (exact_step _ _ (exact_after _ _ _ c.settle.ensures.step c.substitute_all.ensures.step))
    (step_after _ _ _ c.move_columns.ensures.step c.move_columns-2.ensures.step)

pub returns-in_default-substitute_all-clause-step : goal.returns-in_default-substitute_all-clause-step
returns-in_default-substitute_all-clause-step c = exact_step _ _ (exact_after _ _ _ c.settle.ensures.step c.substitute_all.ensures.step)

pub returns-in_default-substitute_all-2-clause-step : goal.returns-in_default-substitute_all-2-clause-step
returns-in_default-substitute_all-2-clause-step c = exact_step _ _ (exact_after _ _ _ c.settle.ensures.step c.substitute_all.ensures.step)

pub returns-in_default-2-clause-step : goal.returns-in_default-2-clause-step
returns-in_default-2-clause-step c = exact_step _ _ c.settle.ensures.step

pub returns-in_err-move_columns-clause-step : goal.returns-in_err-move_columns-clause-step
returns-in_err-move_columns-clause-step c = step_after _ _ _ (exact_step _ _ (exact_after _ _ _ c.settle.ensures.step c.substitute_all.ensures.step)) c.move_columns.ensures.step

pub returns-clause-end : goal.returns-clause-end
returns-clause-end c = grind (arith, common_steps)

pub returns-clause-rows : goal.returns-clause-rows
returns-clause-rows c = grind (arith, common_steps)

pub returns-in_default-substitute_all-clause-rows : goal.returns-in_default-substitute_all-clause-rows
returns-in_default-substitute_all-clause-rows c = omega arith

pub returns-in_default-substitute_all-2-clause-rows : goal.returns-in_default-substitute_all-2-clause-rows
returns-in_default-substitute_all-2-clause-rows c = grind (arith, common_steps)

pub returns-in_default-clause-rows : goal.returns-in_default-clause-rows
returns-in_default-clause-rows c = grind (arith, common_steps)

pub returns-in_default-substitute_all-clause-end : goal.returns-in_default-substitute_all-clause-end
returns-in_default-substitute_all-clause-end c = grind (arith, common_steps)

pub returns-in_default-2-clause-rows : goal.returns-in_default-2-clause-rows
returns-in_default-2-clause-rows c = grind (arith, common_steps)

pub returns-in_default-substitute_all-2-clause-end : goal.returns-in_default-substitute_all-2-clause-end
returns-in_default-substitute_all-2-clause-end c = grind (arith, common_steps)

pub returns-in_default-clause-end : goal.returns-in_default-clause-end
returns-in_default-clause-end c = grind (arith, common_steps)

pub returns-in_default-2-clause-end : goal.returns-in_default-2-clause-end
returns-in_default-2-clause-end c = grind (arith, common_steps)

pub substitute_all-requires : goal.substitute_all-requires
substitute_all-requires c = grind (arith, common_steps)
