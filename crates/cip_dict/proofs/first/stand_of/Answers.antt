use Rattle.std.proofs.lemmas.Grind.{common_steps}
use Rattle.std.proofs.Common.{arith}
use Rattle.cip_dict.proofs.first.stand_of.Goals as goal

pub returns-then-v-columns : goal.returns-then-v-columns
returns-then-v-columns c = grind (arith, common_steps)

pub bounds-columns-v : goal.bounds-columns-v
bounds-columns-v c = grind (arith, common_steps)

pub offset_bounds-columns-v : goal.offset_bounds-columns-v
offset_bounds-columns-v c = grind (arith, common_steps)

pub returns-else-v-columns : goal.returns-else-v-columns
returns-else-v-columns c = grind (arith, common_steps)
