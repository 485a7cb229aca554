use Rattle.std.proofs.lemmas.Grind.{common_steps}
use Rattle.std.proofs.Common.{◌∙◌, arith, refl}
use Rattle.cip_presolve.proofs.substituting.substitute_all.Goals as goal
use Rattle.cip_search.proofs.Pairing.{exact_after, exact_self}

pub loop-row-preserved : goal.loop-row-preserved
loop-row-preserved c = record {
  step = exact_after _ _ _ c.loop-row.invariant.step c.substitute.ensures.step;
  rows = c.substitute.ensures.rows ∙ c.loop-row.invariant.rows;
}

pub returns-clause-rows : goal.returns-clause-rows
returns-clause-rows c = grind (arith, common_steps)

pub returns-clause-step : goal.returns-clause-step
returns-clause-step c = grind (arith, common_steps)

pub overflow_cast-row : goal.overflow_cast-row
overflow_cast-row c = grind (arith, common_steps)

pub returns-clause-end : goal.returns-clause-end
returns-clause-end c = grind (arith, common_steps)

pub returns-in_default-substitute-clause-step : goal.returns-in_default-substitute-clause-step
returns-in_default-substitute-clause-step c = exact_after _ _ _ c.loop-row.invariant.step c.substitute.ensures.step

pub returns-in_default-substitute-2-clause-step : goal.returns-in_default-substitute-2-clause-step
returns-in_default-substitute-2-clause-step c = exact_after _ _ _ c.loop-row.invariant.step c.substitute.ensures.step

pub returns-in_default-substitute-clause-rows : goal.returns-in_default-substitute-clause-rows
returns-in_default-substitute-clause-rows c = grind (arith, common_steps)

pub returns-in_default-substitute-2-clause-rows : goal.returns-in_default-substitute-2-clause-rows
returns-in_default-substitute-2-clause-rows c = grind (arith, common_steps)

pub returns-in_default-substitute-clause-end : goal.returns-in_default-substitute-clause-end
returns-in_default-substitute-clause-end c = grind (arith, common_steps)

pub returns-in_default-substitute-2-clause-end : goal.returns-in_default-substitute-2-clause-end
returns-in_default-substitute-2-clause-end c = grind (arith, common_steps)

pub found_by-requires : goal.found_by-requires
found_by-requires c = grind (arith, common_steps)

pub loop-row-preserved-then-is_used : goal.loop-row-preserved-then-is_used
loop-row-preserved-then-is_used c = grind (arith, common_steps)

pub loop-row-init : goal.loop-row-init
loop-row-init c = record { step = exact_self c.args.draft.now; rows = refl }
