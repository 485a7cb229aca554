use Rattle.std.proofs.lemmas.Grind.{common_steps}
use Rattle.std.proofs.Common.{arith}
use Rattle.cip_frac.proofs.bounded.floor_part_of.Goals as goal

pub returns-then-g-clause-no_greater : goal.returns-then-g-clause-no_greater
returns-then-g-clause-no_greater c = grind (arith, common_steps)

pub returns-then-g-clause-value : goal.returns-then-g-clause-value
returns-then-g-clause-value c = grind (arith, common_steps)

pub overflow_cast-a : goal.overflow_cast-a
overflow_cast-a c = grind (arith, common_steps)

pub div_euclid-requires-clause-no_overflow : goal.div_euclid-requires-clause-no_overflow
div_euclid-requires-clause-no_overflow c = grind (arith, common_steps)

pub returns-else-is_short-clause-no_greater : goal.returns-else-is_short-clause-no_greater
returns-else-is_short-clause-no_greater c = grind (arith, common_steps)

pub overflow_cast-result : goal.overflow_cast-result
overflow_cast-result c = grind (arith, common_steps)

pub returns-else-is_short-clause-value : goal.returns-else-is_short-clause-value
returns-else-is_short-clause-value c = grind (arith, common_steps)

pub div_euclid-requires-clause-nonzero : goal.div_euclid-requires-clause-nonzero
div_euclid-requires-clause-nonzero c = grind (arith, common_steps)

pub div_euclid-requires-else-is_short-clause-no_overflow : goal.div_euclid-requires-else-is_short-clause-no_overflow
div_euclid-requires-else-is_short-clause-no_overflow c = grind (arith, common_steps)

pub overflow_cast-g : goal.overflow_cast-g
overflow_cast-g c = grind (arith, common_steps)

pub returns-then-g-eq1-clause-value : goal.returns-then-g-eq1-clause-value
returns-then-g-eq1-clause-value c = grind (arith, common_steps)

pub div_euclid-requires-else-is_short-clause-nonzero : goal.div_euclid-requires-else-is_short-clause-nonzero
div_euclid-requires-else-is_short-clause-nonzero c = grind (arith, common_steps)

pub returns-then-g-eq1-clause-no_greater : goal.returns-then-g-eq1-clause-no_greater
returns-then-g-eq1-clause-no_greater c = grind (arith, common_steps)

pub overflow_cast-g-else-is_short : goal.overflow_cast-g-else-is_short
overflow_cast-g-else-is_short c = grind (arith, common_steps)
