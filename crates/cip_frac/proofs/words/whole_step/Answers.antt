use Rattle.std.proofs.lemmas.Grind.{common_steps}
use Rattle.std.proofs.Common.{arith}
use Rattle.cip_frac.proofs.Casts.{whole_step_fits, whole_step_is, whole_step_small}
use Rattle.cip_frac.proofs.words.whole_step.Goals as goal

pub overflow_add-result : goal.overflow_add-result
overflow_add-result c = whole_step_fits c.args.n c.args.a c.args.c c.ranges.n c.ranges.a c.ranges.c c.requires

pub returns-clause-value : goal.returns-clause-value
returns-clause-value c = whole_step_is c.args.n c.args.a c.args.c c.ranges.n c.ranges.a c.ranges.c c.requires

pub returns-clause-small : goal.returns-clause-small
returns-clause-small c = whole_step_small c.args.n c.args.a c.args.c c.ranges.n c.ranges.a c.ranges.c c.requires

pub returns-clause-small_product : goal.returns-clause-small_product
returns-clause-small_product c = grind (arith, common_steps)

pub overflow_mul-result : goal.overflow_mul-result
overflow_mul-result c = grind (arith, common_steps)

pub overflow_cast-result-2 : goal.overflow_cast-result-2
overflow_cast-result-2 c = grind (arith, common_steps)

pub overflow_cast-result : goal.overflow_cast-result
overflow_cast-result c = grind (arith, common_steps)
