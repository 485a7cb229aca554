use Rattle.std.proofs.lemmas.Grind.{common_steps}
use Rattle.std.proofs.Common.{◌∙◌, refl, arith}
use Rattle.cip_presolve.proofs.rounds.take_rounds.Goals as goal
use Rattle.cip_presolve.proofs.Planned.{stays_step}
use Rattle.cip_search.proofs.Pairing.{exact_step, step_after}

pub loop-init : goal.loop-init
loop-init c = record { step = stays_step c.args.draft.now; rows = refl }

pub returns-in_default-clause-step : goal.returns-in_default-clause-step
returns-in_default-clause-step c = step_after _ _ _ c.loop.invariant.step c.take_round.ensures.step

pub returns-in_default-2-clause-step : goal.returns-in_default-2-clause-step
returns-in_default-2-clause-step c = step_after _ _ _ c.loop.invariant.step c.take_round.ensures.step

pub loop-preserved : goal.loop-preserved
loop-preserved c = record {
  step = step_after _ _ _ c.loop.invariant.step c.take_round.ensures.step;
  rows = c.take_round.ensures.rows ∙ c.loop.invariant.rows;
}

pub returns-then-is_done-clause-step : goal.returns-then-is_done-clause-step
returns-then-is_done-clause-step c =
    step_after _ _ _ c.loop.invariant.step (step_after _ _ _ c.take_round.ensures.step (exact_step _ _ c.settle_columns.ensures.step))

pub returns-clause-step : goal.returns-clause-step
returns-clause-step c = step_after _ _ _ c.loop.invariant.step (exact_step _ _ c.settle_columns-2.ensures.step)

pub returns-then-is_done-clause-rows : goal.returns-then-is_done-clause-rows
returns-then-is_done-clause-rows c = omega arith

pub returns-in_default-clause-rows : goal.returns-in_default-clause-rows
returns-in_default-clause-rows c = grind (arith, common_steps)

pub returns-in_default-2-clause-rows : goal.returns-in_default-2-clause-rows
returns-in_default-2-clause-rows c = grind (arith, common_steps)

pub returns-then-is_done-clause-end : goal.returns-then-is_done-clause-end
returns-then-is_done-clause-end c = grind (arith, common_steps)

pub returns-in_default-clause-end : goal.returns-in_default-clause-end
returns-in_default-clause-end c = grind (arith, common_steps)

pub returns-in_default-2-clause-end : goal.returns-in_default-2-clause-end
returns-in_default-2-clause-end c = grind (arith, common_steps)

pub returns-clause-rows : goal.returns-clause-rows
returns-clause-rows c = grind (arith, common_steps)

pub returns-clause-end : goal.returns-clause-end
returns-clause-end c = grind (arith, common_steps)

pub take_round-requires : goal.take_round-requires
take_round-requires c = grind (arith, common_steps)
