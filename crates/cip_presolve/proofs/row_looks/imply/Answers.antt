use Rattle.std.proofs.lemmas.Grind.{common_steps}
use Rattle.std.proofs.Common.{◌∙◌, refl, arith}
use Rattle.cip_presolve.proofs.ImpliedSides.{enclosed_by, stays_enclosed}
use Rattle.cip_search.proofs.Pairing.{exact_self, exact_after}
use Rattle.cip_presolve.proofs.row_looks.imply.Goals as goal

pub loop-at-preserved : goal.loop-at-preserved
loop-at-preserved c = record {
  step = exact_after _ _ _ c.loop-at.invariant.step c.try_implied.ensures.step;
  rows = c.try_implied.ensures.rows ∙ c.loop-at.invariant.rows;
  enclosed = stays_enclosed _ _ _ _ c.try_implied.ensures.step c.try_implied.ensures.rows c.loop-at.invariant.enclosed;
}

pub returns-in-Ok-NoPoint-clause-step : goal.returns-in-Ok-NoPoint-clause-step
returns-in-Ok-NoPoint-clause-step c = exact_after _ _ _ c.loop-at.invariant.step c.try_implied.ensures.step

pub returns-in-Err-clause-step : goal.returns-in-Err-clause-step
returns-in-Err-clause-step c = exact_after _ _ _ c.loop-at.invariant.step c.try_implied.ensures.step

pub returns-in_err-tell-in-Ok-clause-step : goal.returns-in_err-tell-in-Ok-clause-step
returns-in_err-tell-in-Ok-clause-step c = exact_after _ _ _ c.loop-at.invariant.step c.try_implied.ensures.step

pub loop-at-init : goal.loop-at-init
loop-at-init c = record { step = exact_self c.args.draft.now; rows = refl; enclosed = enclosed_by c.args.draft.now c.args.row c.row.result.now c.bounds.result.now c.extent-extent.result c.row.ensures.row c.bounds.ensures.bounds c.extent-extent.ensures }

pub returns-clause-rows : goal.returns-clause-rows
returns-clause-rows c = grind (arith, common_steps)

pub returns-in-Err-clause-rows : goal.returns-in-Err-clause-rows
returns-in-Err-clause-rows c = grind (arith, common_steps)

pub returns-in-Ok-NoPoint-clause-end : goal.returns-in-Ok-NoPoint-clause-end
returns-in-Ok-NoPoint-clause-end c = grind (arith, common_steps)

pub returns-in-Ok-NoPoint-clause-rows : goal.returns-in-Ok-NoPoint-clause-rows
returns-in-Ok-NoPoint-clause-rows c = grind (arith, common_steps)

pub returns-in_err-tell-in-Ok-clause-rows : goal.returns-in_err-tell-in-Ok-clause-rows
returns-in_err-tell-in-Ok-clause-rows c = grind (arith, common_steps)

pub try_implied-requires-clause-inside : goal.try_implied-requires-clause-inside
try_implied-requires-clause-inside c = grind (arith, common_steps)

pub try_implied-requires-clause-encloses : goal.try_implied-requires-clause-encloses
try_implied-requires-clause-encloses c = grind (arith, common_steps)

pub returns-clause-step : goal.returns-clause-step
returns-clause-step c = grind (arith, common_steps)

pub returns-in-Err-clause-end : goal.returns-in-Err-clause-end
returns-in-Err-clause-end c = grind (arith, common_steps)

pub returns-clause-end : goal.returns-clause-end
returns-clause-end c = grind (arith, common_steps)

pub extent-extent-requires : goal.extent-extent-requires
extent-extent-requires c = grind (arith, common_steps)
