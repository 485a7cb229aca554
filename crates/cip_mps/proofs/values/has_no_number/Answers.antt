use Rattle.std.proofs.lemmas.Grind.{common_steps}
use Rattle.std.proofs.Common.{arith}
use Rattle.cip_mps.proofs.values.has_no_number.Goals as goal

pub returns-else-is_no_number : goal.returns-else-is_no_number
returns-else-is_no_number c = grind (arith, common_steps)

pub returns-then-is_no_number : goal.returns-then-is_no_number
returns-then-is_no_number c = grind (arith, common_steps)
