use Rattle.std.proofs.Common.{refl, arith}
use Rattle.std.proofs.lemmas.Int.{ints}
use Rattle.cip_dict.proofs.WideProducts.{widened, product_size, product_fits, product_is}
use Rattle.cip_dict.proofs.whole_sums.product_of.Goals as goal

pub overflow_cast-result : goal.overflow_cast-result
overflow_cast-result c = omega (arith, ints, c.requires.first)

pub overflow_cast-result-2 : goal.overflow_cast-result-2
overflow_cast-result-2 c = omega (arith, ints, c.requires.second)

pub overflow_mul-result : goal.overflow_mul-result
overflow_mul-result c =
    rw (widened c.args.a c.requires.first, widened c.args.c c.requires.second) (product_fits c.args.a c.args.c c.requires.first c.requires.second)

pub returns : goal.returns
returns c =
    rw (widened c.args.a c.requires.first, widened c.args.c c.requires.second, product_is c.args.a c.args.c c.requires.first c.requires.second)
    (record { value = refl; small = product_size c.args.a c.args.c c.requires.first c.requires.second })
