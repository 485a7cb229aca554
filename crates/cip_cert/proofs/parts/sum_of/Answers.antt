use Rattle.std.proofs.lemmas.Grind.{common_steps}
use Rattle.std.proofs.Common.{arith}
use Rattle.cip_cert.proofs.parts.sum_of.Goals as goal

pub returns-else-add_product : goal.returns-else-add_product
returns-else-add_product c = grind (arith, common_steps)

pub returns-then-add_product : goal.returns-then-add_product
returns-then-add_product c = grind (arith, common_steps)
