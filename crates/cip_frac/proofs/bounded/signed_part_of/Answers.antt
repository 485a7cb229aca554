use Rattle.std.proofs.lemmas.Grind.{common_steps}
use Rattle.std.proofs.Common.{arith}
use Rattle.cip_frac.proofs.Casts.{short_fits, quotient_is_short}
use Rattle.cip_frac.proofs.bounded.signed_part_of.Goals as goal

pub overflow_cast-result : goal.overflow_cast-result
overflow_cast-result c = short_fits c.args.a c.ranges.a (c.is_short.ensures c.if-is_short.true)

pub returns-then-g : goal.returns-then-g
returns-then-g c =
    quotient_is_short c.args.a c.args.g c.ranges.a (c.is_short.ensures c.if-is_short.true) c.requires.positive c.if-g.true

pub nonzero_div-result : goal.nonzero_div-result
nonzero_div-result c = grind (arith, common_steps)

pub returns-else-is_short : goal.returns-else-is_short
returns-else-is_short c = grind (arith, common_steps)

pub overflow_cast-result-then-g-2 : goal.overflow_cast-result-then-g-2
overflow_cast-result-then-g-2 c = grind (arith, common_steps)

pub returns-then-g-eq1 : goal.returns-then-g-eq1
returns-then-g-eq1 c = grind (arith, common_steps)

pub overflow_cast-result-then-g : goal.overflow_cast-result-then-g
overflow_cast-result-then-g c = omega arith

pub nonzero_div-result-else-is_short : goal.nonzero_div-result-else-is_short
nonzero_div-result-else-is_short c = grind (arith, common_steps)

pub overflow_cast-result-else-is_short : goal.overflow_cast-result-else-is_short
overflow_cast-result-else-is_short c = grind (arith, common_steps)
