use Rattle.std.proofs.lemmas.Grind.{common_steps}
use Rattle.std.proofs.Common.{arith}
use Rattle.cip_lin.proofs.choices.Choices.set.Goals as goal

pub returns-then-at-len : goal.returns-then-at-len
returns-then-at-len c = grind (arith, common_steps)

pub returns-else-at-len : goal.returns-else-at-len
returns-else-at-len c = grind (arith, common_steps)

pub index_mut-requires : goal.index_mut-requires
index_mut-requires c = grind (arith, common_steps)
