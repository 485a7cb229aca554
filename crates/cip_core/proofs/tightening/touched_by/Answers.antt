use Rattle.std.proofs.lemmas.Grind.{common_steps}
use Rattle.std.proofs.Common.{arith}
use Rattle.cip_core.proofs.tightening.touched_by.Goals as goal

pub returns-in-Ok-Empty : goal.returns-in-Ok-Empty
returns-in-Ok-Empty c = grind (arith, common_steps)

pub returns-in-Ok-Same : goal.returns-in-Ok-Same
returns-in-Ok-Same c = grind (arith, common_steps)

pub returns-in-Ok-Yes : goal.returns-in-Ok-Yes
returns-in-Ok-Yes c = grind (arith, common_steps)

pub returns-in-Err : goal.returns-in-Err
returns-in-Err c = grind (arith, common_steps)
