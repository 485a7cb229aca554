use Rattle.std.proofs.lemmas.Grind.{common_steps}
use Rattle.std.proofs.Common.{arith}
use Rattle.cip_dict.proofs.exchange.write_costs.Goals as goal

pub returns-in-Err-count_room-clause-long : goal.returns-in-Err-count_room-clause-long
returns-in-Err-count_room-clause-long c = grind (arith, common_steps)

pub returns-in-Ok-count_room-clause-long : goal.returns-in-Ok-count_room-clause-long
returns-in-Ok-count_room-clause-long c = grind (arith, common_steps)

pub returns-in-Err-clause-long : goal.returns-in-Err-clause-long
returns-in-Err-clause-long c = grind (arith, common_steps)

pub returns-in-Ok-count_room-clause-written : goal.returns-in-Ok-count_room-clause-written
returns-in-Ok-count_room-clause-written c = grind (arith, common_steps)

pub write_substituted-requires-clause-row_long : goal.write_substituted-requires-clause-row_long
write_substituted-requires-clause-row_long c = grind (arith, common_steps)

pub write_substituted-requires-clause-new_long : goal.write_substituted-requires-clause-new_long
write_substituted-requires-clause-new_long c = grind (arith, common_steps)

pub write_substituted-requires-clause-entering : goal.write_substituted-requires-clause-entering
write_substituted-requires-clause-entering c = grind (arith, common_steps)

pub write_substituted-requires-clause-leaving : goal.write_substituted-requires-clause-leaving
write_substituted-requires-clause-leaving c = grind (arith, common_steps)

pub returns-in-Err-clause-written : goal.returns-in-Err-clause-written
returns-in-Err-clause-written c = grind (arith, common_steps)

pub write_substituted-requires-clause-few : goal.write_substituted-requires-clause-few
write_substituted-requires-clause-few c = grind (arith, common_steps)

pub write_substituted-requires-clause-new_spelled : goal.write_substituted-requires-clause-new_spelled
write_substituted-requires-clause-new_spelled c = grind (arith, common_steps)

pub write_substituted-requires-clause-is_leaving : goal.write_substituted-requires-clause-is_leaving
write_substituted-requires-clause-is_leaving c = grind (arith, common_steps)
