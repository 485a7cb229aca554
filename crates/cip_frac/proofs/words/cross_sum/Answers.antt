use Rattle.std.proofs.lemmas.Grind.{common_steps}
use Rattle.std.proofs.Common.{arith}
use Rattle.cip_frac.proofs.ShortParts.{cross_fits, cross_is}
use Rattle.cip_frac.proofs.words.cross_sum.Goals as goal

pub overflow_add-result : goal.overflow_add-result
overflow_add-result c =
    cross_fits c.args.a c.args.c c.args.o c.args.u c.ranges.a c.ranges.c c.requires.first c.requires.second _ _ c.wide_product.ensures.value c.wide_product-2.ensures.value

pub returns : goal.returns
returns c =
    cross_is c.args.a c.args.c c.args.o c.args.u c.ranges.a c.ranges.c c.requires.first c.requires.second _ _ c.wide_product.ensures.value c.wide_product-2.ensures.value

pub overflow_cast-u : goal.overflow_cast-u
overflow_cast-u c = grind (arith, common_steps)

pub overflow_cast-o : goal.overflow_cast-o
overflow_cast-o c = grind (arith, common_steps)
