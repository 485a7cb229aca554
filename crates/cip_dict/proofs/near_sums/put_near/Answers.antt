use Rattle.std.proofs.lemmas.Grind.{common_steps}
use Rattle.std.proofs.Common.{arith}
use Rattle.cip_dict.proofs.near_sums.put_near.Goals as goal

pub sum_near-requires-clause-few : goal.sum_near-requires-clause-few
sum_near-requires-clause-few c = c.requires.few

pub sum_near-requires-clause-factor_small : goal.sum_near-requires-clause-factor_small
sum_near-requires-clause-factor_small c = c.requires.factor_small

pub sum_near-requires-clause-own_small : goal.sum_near-requires-clause-own_small
sum_near-requires-clause-own_small c = c.requires.own_small

pub sum_near-requires-clause-row_kept : goal.sum_near-requires-clause-row_kept
sum_near-requires-clause-row_kept c = c.requires.row_kept

pub sum_near-requires-clause-row_small : goal.sum_near-requires-clause-row_small
sum_near-requires-clause-row_small c = c.requires.row_small

pub sum_near-requires-clause-new_kept : goal.sum_near-requires-clause-new_kept
sum_near-requires-clause-new_kept c = c.requires.new_kept

pub sum_near-requires-clause-new_small : goal.sum_near-requires-clause-new_small
sum_near-requires-clause-new_small c = c.requires.new_small

pub sum_near-requires-clause-positive : goal.sum_near-requires-clause-positive
sum_near-requires-clause-positive c = c.requires.positive

pub returns-else-near-lt-SMALL : goal.returns-else-near-lt-SMALL
returns-else-near-lt-SMALL c = grind (arith, common_steps)

pub returns-in-None : goal.returns-in-None
returns-in-None c = grind (arith, common_steps)

pub returns-in-Ok-None : goal.returns-in-Ok-None
returns-in-Ok-None c = grind (arith, common_steps)

pub returns-then-near-lt-SMALL : goal.returns-then-near-lt-SMALL
returns-then-near-lt-SMALL c = grind (arith, common_steps)

pub returns-then-divide_near : goal.returns-then-divide_near
returns-then-divide_near c = grind (arith, common_steps)

pub returns-else-below-lt-SMALL : goal.returns-else-below-lt-SMALL
returns-else-below-lt-SMALL c = grind (arith, common_steps)

pub divide_near-requires-clause-positive : goal.divide_near-requires-clause-positive
divide_near-requires-clause-positive c = grind (arith, common_steps)

pub divide_near-requires-clause-near : goal.divide_near-requires-clause-near
divide_near-requires-clause-near c = grind (arith, common_steps)

pub short_part-requires : goal.short_part-requires
short_part-requires c = grind (arith, common_steps)
