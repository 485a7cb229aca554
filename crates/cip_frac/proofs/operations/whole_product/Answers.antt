use Rattle.std.proofs.lemmas.Grind.{common_steps}
use Rattle.std.proofs.Common.{arith}
use Rattle.cip_frac.proofs.SumSteps.{read}
use Rattle.cip_frac.proofs.WholeNumbers.{made_product, product_made}
use Rattle.cip_frac.proofs.operations.whole_product.Goals as goal

pub of_lowest-requires : goal.of_lowest-requires
of_lowest-requires c = made_product (read c.args.a) (read c.args.c) c.in-Some.product c.in-Some.ensures

pub returns-in-Some : goal.returns-in-Some
returns-in-Some c = product_made c.args.a c.args.c _ _ c.ranges.a c.ranges.c c.in-Some.ensures c.of_lowest.ensures

pub returns-in-None : goal.returns-in-None
returns-in-None c = grind (arith, common_steps)
