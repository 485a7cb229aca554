use Rattle.std.proofs.lemmas.Grind.{common_steps}
use Rattle.std.proofs.Common.{arith}
use Rattle.cip_frac.proofs.in_place.sum_with_product.Goals as goal

pub returns : goal.returns
returns c = grind (arith, common_steps)

pub returns-in_default-product : goal.returns-in_default-product
returns-in_default-product c = grind (arith, common_steps)
