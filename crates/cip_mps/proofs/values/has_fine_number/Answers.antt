use Rattle.std.proofs.lemmas.Grind.{common_steps}
use Rattle.std.proofs.Common.{arith}
use Rattle.cip_mps.proofs.values.has_fine_number.Goals as goal

pub returns-else-is_too_fine : goal.returns-else-is_too_fine
returns-else-is_too_fine c = grind (arith, common_steps)

pub returns-then-is_too_fine : goal.returns-then-is_too_fine
returns-then-is_too_fine c = grind (arith, common_steps)
