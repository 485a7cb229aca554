use Rattle.std.proofs.lemmas.Grind.{common_steps}
use Rattle.std.proofs.Common.{arith}
use Rattle.cip_split.proofs.forms.sign_fault.Goals as goal

pub returns-else-is_negative-2 : goal.returns-else-is_negative-2
returns-else-is_negative-2 c = grind (arith, common_steps)

pub returns : goal.returns
returns c = grind (arith, common_steps)
