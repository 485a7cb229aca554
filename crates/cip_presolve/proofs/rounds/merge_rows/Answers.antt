use Rattle.std.proofs.lemmas.Grind.{common_steps}
use Rattle.std.proofs.Common.{◌∙◌, refl, arith}
use Rattle.cip_search.proofs.Pairing.{exact_self, exact_after}
use Rattle.cip_presolve.proofs.rounds.merge_rows.Goals as goal

pub loop-at-preserved : goal.loop-at-preserved
loop-at-preserved c = record {
  step = exact_after _ _ _ c.loop-at.invariant.step c.merge_pair.ensures.step;
  rows = c.merge_pair.ensures.rows ∙ c.loop-at.invariant.rows;
}

pub returns-in_default-merge_pair-clause-step : goal.returns-in_default-merge_pair-clause-step
returns-in_default-merge_pair-clause-step c = exact_after _ _ _ c.loop-at.invariant.step c.merge_pair.ensures.step

pub returns-in_default-clause-step : goal.returns-in_default-clause-step
returns-in_default-clause-step c = exact_self c.args.draft.now

pub loop-at-init : goal.loop-at-init
loop-at-init c = record { step = exact_self c.args.draft.now; rows = refl }

pub returns-in_default-merge_pair-clause-end : goal.returns-in_default-merge_pair-clause-end
returns-in_default-merge_pair-clause-end c = grind (arith, common_steps)

pub returns-in_default-merge_pair-clause-rows : goal.returns-in_default-merge_pair-clause-rows
returns-in_default-merge_pair-clause-rows c = omega arith

pub returns-clause-rows : goal.returns-clause-rows
returns-clause-rows c = grind (arith, common_steps)

pub index-requires-in-loop-at : goal.index-requires-in-loop-at
index-requires-in-loop-at c = grind (arith, common_steps)

pub sorted_keys-requires : goal.sorted_keys-requires
sorted_keys-requires c = grind (arith, common_steps)

pub returns-clause-step : goal.returns-clause-step
returns-clause-step c = grind (arith, common_steps)

pub index-requires : goal.index-requires
index-requires c = grind (arith, common_steps)

pub overflow_sub-at : goal.overflow_sub-at
overflow_sub-at c = grind (arith, common_steps)
