use Rattle.std.proofs.lemmas.Grind.{common_steps}
use Rattle.std.proofs.Common.{arith}
use Rattle.cip_lp.proofs.lengths.number_length.Goals as goal

pub returns-then-mantissa-gt1-clause-value : goal.returns-then-mantissa-gt1-clause-value
returns-then-mantissa-gt1-clause-value c = grind (arith, common_steps)

pub returns-else-mantissa-gt1-clause-value : goal.returns-else-mantissa-gt1-clause-value
returns-else-mantissa-gt1-clause-value c = grind (arith, common_steps)

pub returns-then-mantissa-gt1-clause-within : goal.returns-then-mantissa-gt1-clause-within
returns-then-mantissa-gt1-clause-within c = grind (arith, common_steps)

pub overflow_add-result : goal.overflow_add-result
overflow_add-result c = grind (arith, common_steps)

pub slice_bounds-exponent_length-start : goal.slice_bounds-exponent_length-start
slice_bounds-exponent_length-start c = grind (arith, common_steps)

pub slice_bounds-exponent_length-count : goal.slice_bounds-exponent_length-count
slice_bounds-exponent_length-count c = grind (arith, common_steps)

pub overflow_add-mantissa : goal.overflow_add-mantissa
overflow_add-mantissa c = grind (arith, common_steps)

pub slice_bounds-decimals_length-count : goal.slice_bounds-decimals_length-count
slice_bounds-decimals_length-count c = grind (arith, common_steps)

pub slice_bounds-decimals_length-start : goal.slice_bounds-decimals_length-start
slice_bounds-decimals_length-start c = grind (arith, common_steps)
