use Rattle.std.proofs.lemmas.Grind.{common_steps}
use Rattle.std.proofs.Common.{arith}
use Rattle.cip_dict.proofs.rows.is_changed.Goals as goal

pub has-requires : goal.has-requires
has-requires c = grind (arith, common_steps)

pub is_basic-requires : goal.is_basic-requires
is_basic-requires c = grind (arith, common_steps)

pub returns-then-v-i : goal.returns-then-v-i
returns-then-v-i c = grind (arith, common_steps)

pub returns-else-v-i : goal.returns-else-v-i
returns-else-v-i c = grind (arith, common_steps)
