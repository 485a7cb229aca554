use Rattle.std.proofs.lemmas.Grind.{common_steps}
use Rattle.std.proofs.Common.{arith}
use Rattle.cip_mps.proofs.sections.is_behind.Goals as goal

pub returns-else-number_of : goal.returns-else-number_of
returns-else-number_of c = grind (arith, common_steps)

pub returns-then-number_of : goal.returns-then-number_of
returns-then-number_of c = grind (arith, common_steps)
