use Rattle.std.proofs.lemmas.Grind.{common_steps}
use Rattle.std.proofs.Common.{arith}
use Rattle.cip_dict.proofs.entries.step_to.Goals as goal

pub returns-in-Ok-mul : goal.returns-in-Ok-mul
returns-in-Ok-mul c = grind (arith, common_steps)

pub returns-in-Err : goal.returns-in-Err
returns-in-Err c = grind (arith, common_steps)

pub returns-in_default : goal.returns-in_default
returns-in_default c = grind (arith, common_steps)
