use Rattle.std.proofs.lemmas.Grind.{common_steps}
use Rattle.std.proofs.Common.{arith}
use Rattle.cip_lp.proofs.lengths.exponent_length.Goals as goal

pub returns-else-digits-gt0-clause-value : goal.returns-else-digits-gt0-clause-value
returns-else-digits-gt0-clause-value c = grind (arith, common_steps)

pub returns-then-digits-gt0-clause-value : goal.returns-then-digits-gt0-clause-value
returns-then-digits-gt0-clause-value c = grind (arith, common_steps)

pub returns-then-digits-gt0-clause-within : goal.returns-then-digits-gt0-clause-within
returns-then-digits-gt0-clause-within c = grind (arith, common_steps)

pub overflow_add-result-then-digits-gt0 : goal.overflow_add-result-then-digits-gt0
overflow_add-result-then-digits-gt0 c = grind (arith, common_steps)

pub overflow_add-result : goal.overflow_add-result
overflow_add-result c = grind (arith, common_steps)

pub bounds-bytes-0 : goal.bounds-bytes-0
bounds-bytes-0 c = grind (arith, common_steps)

pub slice_bounds-rest-count : goal.slice_bounds-rest-count
slice_bounds-rest-count c = grind (arith, common_steps)

pub slice_bounds-rest-start : goal.slice_bounds-rest-start
slice_bounds-rest-start c = grind (arith, common_steps)

pub returns-in_default-2-clause-value : goal.returns-in_default-2-clause-value
returns-in_default-2-clause-value c = grind (arith, common_steps)

pub returns-in_default-clause-value : goal.returns-in_default-clause-value
returns-in_default-clause-value c = grind (arith, common_steps)

pub slice_bounds-digits_length-count : goal.slice_bounds-digits_length-count
slice_bounds-digits_length-count c = grind (arith, common_steps)

pub slice_bounds-digits_length-start : goal.slice_bounds-digits_length-start
slice_bounds-digits_length-start c = grind (arith, common_steps)
