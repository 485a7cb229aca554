use Rattle.std.proofs.lemmas.Grind.{common_steps}
use Rattle.std.proofs.Common.{arith}
use Rattle.cip_frac.proofs.Casts.{product_fits, product_is, product_below}
use Rattle.cip_frac.proofs.words.wide_product.Goals as goal

pub overflow_mul-result : goal.overflow_mul-result
overflow_mul-result c = product_fits c.args.a c.args.c c.ranges.a c.ranges.c

pub returns-clause-value : goal.returns-clause-value
returns-clause-value c = product_is c.args.a c.args.c c.ranges.a c.ranges.c

pub returns-clause-small : goal.returns-clause-small
returns-clause-small c = product_below c.args.a c.args.c c.ranges.a c.ranges.c

pub overflow_cast-result-2 : goal.overflow_cast-result-2
overflow_cast-result-2 c = grind (arith, common_steps)

pub overflow_cast-result : goal.overflow_cast-result
overflow_cast-result c = grind (arith, common_steps)
