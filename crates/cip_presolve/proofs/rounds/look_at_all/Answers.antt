use Rattle.std.proofs.lemmas.Grind.{common_steps}
use Rattle.std.proofs.Common.{◌∙◌, arith, refl}
use Rattle.cip_presolve.proofs.rounds.look_at_all.Goals as goal
use Rattle.cip_search.proofs.Pairing.{exact_after, exact_self}

pub loop-preserved : goal.loop-preserved
loop-preserved c = record {
  step = exact_after _ _ _ c.loop.invariant.step c.look_at.ensures.step;
  rows = c.look_at.ensures.rows ∙ c.loop.invariant.rows;
}

pub returns-in_default-look_at-clause-step : goal.returns-in_default-look_at-clause-step
returns-in_default-look_at-clause-step c = exact_after _ _ _ c.loop.invariant.step c.look_at.ensures.step

pub returns-in_default-look_at-2-clause-step : goal.returns-in_default-look_at-2-clause-step
returns-in_default-look_at-2-clause-step c = exact_after _ _ _ c.loop.invariant.step c.look_at.ensures.step

pub returns-in_default-look_at-clause-rows : goal.returns-in_default-look_at-clause-rows
returns-in_default-look_at-clause-rows c = omega arith

pub returns-in_default-look_at-2-clause-rows : goal.returns-in_default-look_at-2-clause-rows
returns-in_default-look_at-2-clause-rows c = grind (arith, common_steps)

pub returns-in_default-look_at-clause-end : goal.returns-in_default-look_at-clause-end
returns-in_default-look_at-clause-end c = grind (arith, common_steps)

pub returns-in_default-look_at-2-clause-end : goal.returns-in_default-look_at-2-clause-end
returns-in_default-look_at-2-clause-end c = grind (arith, common_steps)

pub returns-in_default-clause-rows : goal.returns-in_default-clause-rows
returns-in_default-clause-rows c = grind (arith, common_steps)

pub returns-in_default-clause-step : goal.returns-in_default-clause-step
returns-in_default-clause-step c = grind (arith, common_steps)

pub returns-clause-rows : goal.returns-clause-rows
returns-clause-rows c = grind (arith, common_steps)

pub returns-clause-step : goal.returns-clause-step
returns-clause-step c = grind (arith, common_steps)

pub returns-clause-end : goal.returns-clause-end
returns-clause-end c = grind (arith, common_steps)

pub loop-init : goal.loop-init
loop-init c = record { step = exact_self c.args.draft.now; rows = refl }
