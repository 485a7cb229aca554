use Rattle.std.proofs.lemmas.Grind.{common_steps}
use Rattle.std.proofs.Common.{◌∙◌, arith, refl}
use Rattle.cip_presolve.proofs.rounds.settle.Goals as goal
use Rattle.cip_search.proofs.Pairing.{exact_after, exact_self}

pub loop-preserved : goal.loop-preserved
loop-preserved c = record {
  step = exact_after _ _ _ c.loop.invariant.step (exact_after _ _ _ c.look_at_all.ensures.step c.merge_rows.ensures.step);
  rows = c.merge_rows.ensures.rows ∙ c.look_at_all.ensures.rows ∙ c.loop.invariant.rows;
}

pub returns-in_default-clause-step : goal.returns-in_default-clause-step
returns-in_default-clause-step c = exact_after _ _ _ c.loop.invariant.step c.look_at_all.ensures.step

pub returns-in_default-2-clause-step : goal.returns-in_default-2-clause-step
returns-in_default-2-clause-step c = exact_after _ _ _ c.loop.invariant.step c.look_at_all.ensures.step

pub returns-in_default-merge_rows-clause-step : goal.returns-in_default-merge_rows-clause-step
returns-in_default-merge_rows-clause-step c =
    exact_after _ _ _ c.loop.invariant.step (exact_after _ _ _ c.look_at_all.ensures.step c.merge_rows.ensures.step)

pub returns-in_default-merge_rows-2-clause-step : goal.returns-in_default-merge_rows-2-clause-step
returns-in_default-merge_rows-2-clause-step c =
    exact_after _ _ _ c.loop.invariant.step (exact_after _ _ _ c.look_at_all.ensures.step c.merge_rows.ensures.step)

pub returns-then-is_done-clause-step : goal.returns-then-is_done-clause-step
returns-then-is_done-clause-step c =
    exact_after _ _ _ c.loop.invariant.step (exact_after _ _ _ (exact_after _ _ _ c.look_at_all.ensures.step c.merge_rows.ensures.step) c.settle_columns.ensures.step)

pub returns-clause-step : goal.returns-clause-step
returns-clause-step c = exact_after _ _ _ c.loop.invariant.step c.settle_columns-2.ensures.step

pub returns-in_default-clause-rows : goal.returns-in_default-clause-rows
returns-in_default-clause-rows c = omega arith

pub returns-in_default-merge_rows-2-clause-rows : goal.returns-in_default-merge_rows-2-clause-rows
returns-in_default-merge_rows-2-clause-rows c = omega arith

pub returns-in_default-merge_rows-clause-rows : goal.returns-in_default-merge_rows-clause-rows
returns-in_default-merge_rows-clause-rows c = omega arith

pub returns-then-is_done-clause-rows : goal.returns-then-is_done-clause-rows
returns-then-is_done-clause-rows c = omega arith

pub returns-then-is_done-clause-end : goal.returns-then-is_done-clause-end
returns-then-is_done-clause-end c = grind (arith, common_steps)

pub returns-in_default-merge_rows-clause-end : goal.returns-in_default-merge_rows-clause-end
returns-in_default-merge_rows-clause-end c = grind (arith, common_steps)

pub returns-in_default-merge_rows-2-clause-end : goal.returns-in_default-merge_rows-2-clause-end
returns-in_default-merge_rows-2-clause-end c = grind (arith, common_steps)

pub returns-in_default-2-clause-rows : goal.returns-in_default-2-clause-rows
returns-in_default-2-clause-rows c = grind (arith, common_steps)

pub returns-in_default-clause-end : goal.returns-in_default-clause-end
returns-in_default-clause-end c = grind (arith, common_steps)

pub returns-in_default-2-clause-end : goal.returns-in_default-2-clause-end
returns-in_default-2-clause-end c = grind (arith, common_steps)

pub returns-clause-rows : goal.returns-clause-rows
returns-clause-rows c = grind (arith, common_steps)

pub merge_rows-requires : goal.merge_rows-requires
merge_rows-requires c = grind (arith, common_steps)

pub returns-clause-end : goal.returns-clause-end
returns-clause-end c = grind (arith, common_steps)

pub loop-init : goal.loop-init
loop-init c = record { step = exact_self c.args.draft.now; rows = refl }
