use Rattle.cip_leaf.proofs.Along.{too_wide_at}
use Rattle.std.proofs.lemmas.Grind.{common_steps}
use Rattle.std.proofs.Common.{arith}
use Rattle.cip_leaf.proofs.rows.rows_left.Goals as goal

pub loop-at-preserved : goal.loop-at-preserved
loop-at-preserved c = grind (arith, common_steps)

pub returns : goal.returns
returns c = grind (arith, common_steps)

pub left_of_row-requires-clause-stand : goal.left_of_row-requires-clause-stand
left_of_row-requires-clause-stand c = grind (arith, common_steps)

pub left_of_row-requires-clause-long : goal.left_of_row-requires-clause-long
left_of_row-requires-clause-long c = grind (arith, common_steps)

pub overflow_cast-result : goal.overflow_cast-result
overflow_cast-result c = grind (arith, common_steps)

pub left_of_row-requires-clause-numbers : goal.left_of_row-requires-clause-numbers
left_of_row-requires-clause-numbers c = grind (arith, common_steps)

pub bounds-rows-at : goal.bounds-rows-at
bounds-rows-at c = grind (arith, common_steps)

pub offset_bounds-rows-at : goal.offset_bounds-rows-at
offset_bounds-rows-at c = grind (arith, common_steps)

pub returns-then-is_err : goal.returns-then-is_err
returns-then-is_err c = grind (arith, common_steps)

pub loop-at-init : goal.loop-at-init
loop-at-init c = grind (arith, common_steps)

pub returns-in-Err-NoMemory : goal.returns-in-Err-NoMemory
returns-in-Err-NoMemory c = grind (arith, common_steps)

pub returns-in-Err-Wide : goal.returns-in-Err-Wide
returns-in-Err-Wide c =
    too_wide_at c.args.rows.now c.args.point.now c.loop-at.at c.index-rows-at.result c.in-Err-Wide.field-0 c.loop-at-test.true
    c.index-rows-at.is c.in-Err-Wide.field-0-is c.in-Err-Wide.ensures
