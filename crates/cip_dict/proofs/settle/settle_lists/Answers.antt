use Rattle.std.proofs.lemmas.Grind.{common_steps}
use Rattle.std.proofs.Common.{arith}
use Rattle.cip_dict.proofs.settle.settle_lists.Goals as goal

pub loop-v-preserved : goal.loop-v-preserved
loop-v-preserved c = grind (arith, common_steps)

pub returns-clause-rows : goal.returns-clause-rows
returns-clause-rows c = grind (arith, common_steps)

pub returns-in_err-settle-clause-rows : goal.returns-in_err-settle-clause-rows
returns-in_err-settle-clause-rows c = grind (arith, common_steps)

pub bounds-rows-v : goal.bounds-rows-v
bounds-rows-v c = grind (arith, common_steps)

pub offset_bounds-rows-v : goal.offset_bounds-rows-v
offset_bounds-rows-v c = grind (arith, common_steps)

pub returns-clause-costs : goal.returns-clause-costs
returns-clause-costs c = grind (arith, common_steps)

pub returns-in_err-settle-clause-values : goal.returns-in_err-settle-clause-values
returns-in_err-settle-clause-values c = grind (arith, common_steps)

pub returns-in_err-settle-clause-cost : goal.returns-in_err-settle-clause-cost
returns-in_err-settle-clause-cost c = grind (arith, common_steps)

pub returns-in_err-settle-clause-costs : goal.returns-in_err-settle-clause-costs
returns-in_err-settle-clause-costs c = grind (arith, common_steps)
