use Rattle.std.proofs.lemmas.Grind.{common_steps}
use Rattle.std.proofs.Common.{arith}
use Rattle.cip_presolve.proofs.row_looks.look_at.Goals as goal
use Rattle.cip_search.proofs.Pairing.{exact_after, exact_self}

pub returns-in-Ok-Kept-clause-step : goal.returns-in-Ok-Kept-clause-step
returns-in-Ok-Kept-clause-step c = exact_after _ _ _ c.reduce_row.ensures.step c.imply.ensures.step

pub imply-requires : goal.imply-requires
imply-requires c = omega arith

pub reduce_row-requires : goal.reduce_row-requires
reduce_row-requires c = omega arith

pub returns-in-Err-clause-rows : goal.returns-in-Err-clause-rows
returns-in-Err-clause-rows c = omega arith

pub returns-in-Ok-Kept-clause-rows : goal.returns-in-Ok-Kept-clause-rows
returns-in-Ok-Kept-clause-rows c = omega arith

pub returns-in-Ok-NoPoint-clause-end : goal.returns-in-Ok-NoPoint-clause-end
returns-in-Ok-NoPoint-clause-end c = grind (arith, common_steps)

pub returns-in-Ok-NoPoint-clause-rows : goal.returns-in-Ok-NoPoint-clause-rows
returns-in-Ok-NoPoint-clause-rows c = omega arith

pub returns-in-Ok-clause-end : goal.returns-in-Ok-clause-end
returns-in-Ok-clause-end c = grind (arith, common_steps)

pub returns-in-Ok-clause-rows : goal.returns-in-Ok-clause-rows
returns-in-Ok-clause-rows c = omega arith

pub returns-in-Ok-Kept-clause-end : goal.returns-in-Ok-Kept-clause-end
returns-in-Ok-Kept-clause-end c = grind (arith, common_steps)

pub returns-in-Ok-clause-step : goal.returns-in-Ok-clause-step
returns-in-Ok-clause-step c = grind (arith, common_steps)

pub returns-in-Ok-NoPoint-clause-step : goal.returns-in-Ok-NoPoint-clause-step
returns-in-Ok-NoPoint-clause-step c = grind (arith, common_steps)

pub returns-in-Err-clause-step : goal.returns-in-Err-clause-step
returns-in-Err-clause-step c = grind (arith, common_steps)

pub row-requires : goal.row-requires
row-requires c = grind (arith, common_steps)

pub returns-in-Err-clause-end : goal.returns-in-Err-clause-end
returns-in-Err-clause-end c = grind (arith, common_steps)

pub returns-then-number-count-clause-end : goal.returns-then-number-count-clause-end
returns-then-number-count-clause-end c = grind (arith, common_steps)

pub returns-then-number-count-clause-step : goal.returns-then-number-count-clause-step
returns-then-number-count-clause-step c = exact_self c.args.draft.now
