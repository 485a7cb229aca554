use Rattle.std.proofs.lemmas.Grind.{common_steps}
use Rattle.std.proofs.Common.{arith}
use Rattle.cip_dict.proofs.exchange.enter_row.Goals as goal

pub returns-clause-entered : goal.returns-clause-entered
returns-clause-entered c = grind (arith, common_steps)

pub returns-clause-left : goal.returns-clause-left
returns-clause-left c = grind (arith, common_steps)

pub returns-clause-count : goal.returns-clause-count
returns-clause-count c = grind (arith, common_steps)

pub swap-requires-2-clause-a_in_bounds : goal.swap-requires-2-clause-a_in_bounds
swap-requires-2-clause-a_in_bounds c = grind (arith, common_steps)

pub swap-requires-2-clause-b_in_bounds : goal.swap-requires-2-clause-b_in_bounds
swap-requires-2-clause-b_in_bounds c = grind (arith, common_steps)

pub bounds-rows-i : goal.bounds-rows-i
bounds-rows-i c = grind (arith, common_steps)

pub offset_bounds-rows-i : goal.offset_bounds-rows-i
offset_bounds-rows-i c = grind (arith, common_steps)
