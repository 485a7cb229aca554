use Rattle.std.proofs.lemmas.Grind.{common_steps}
use Rattle.std.proofs.Common.{arith}
use Rattle.cip_split.proofs.forms.is_out_of_order.Goals as goal

pub returns-else-from-next : goal.returns-else-from-next
returns-else-from-next c = grind (arith, common_steps)

pub returns-then-from-next : goal.returns-then-from-next
returns-then-from-next c = grind (arith, common_steps)
