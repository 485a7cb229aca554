use Rattle.std.proofs.lemmas.Grind.{common_steps}
use Rattle.std.proofs.Common.{arith}
use Rattle.cip_mps_lines.proofs.set_lines.values_in_set.Goals as goal

pub returns-in-len4 : goal.returns-in-len4
returns-in-len4 c = grind (arith, common_steps)

pub returns-in-len2 : goal.returns-in-len2
returns-in-len2 c = grind (arith, common_steps)

pub bounds-words-3 : goal.bounds-words-3
bounds-words-3 c = grind (arith, common_steps)

pub returns-in_default : goal.returns-in_default
returns-in_default c = grind (arith, common_steps)

pub bounds-words-2 : goal.bounds-words-2
bounds-words-2 c = grind (arith, common_steps)

pub bounds-words-0-then-words-lt5 : goal.bounds-words-0-then-words-lt5
bounds-words-0-then-words-lt5 c = grind (arith, common_steps)

pub bounds-words-1-then-words-lt5 : goal.bounds-words-1-then-words-lt5
bounds-words-1-then-words-lt5 c = grind (arith, common_steps)

pub bounds-words-0 : goal.bounds-words-0
bounds-words-0 c = grind (arith, common_steps)

pub bounds-words-1 : goal.bounds-words-1
bounds-words-1 c = grind (arith, common_steps)

pub slice_bounds-two_values-end-in-len4-3 : goal.slice_bounds-two_values-end-in-len4-3
slice_bounds-two_values-end-in-len4-3 c = grind (arith, common_steps)

pub slice_bounds-two_values-end-in-len4-2 : goal.slice_bounds-two_values-end-in-len4-2
slice_bounds-two_values-end-in-len4-2 c = grind (arith, common_steps)

pub slice_bounds-two_values-end-in-len4 : goal.slice_bounds-two_values-end-in-len4
slice_bounds-two_values-end-in-len4 c = grind (arith, common_steps)

pub slice_bounds-two_values-end : goal.slice_bounds-two_values-end
slice_bounds-two_values-end c = grind (arith, common_steps)

pub slice_bounds-one_value-end-in-len2 : goal.slice_bounds-one_value-end-in-len2
slice_bounds-one_value-end-in-len2 c = grind (arith, common_steps)

pub slice_bounds-one_value-end : goal.slice_bounds-one_value-end
slice_bounds-one_value-end c = grind (arith, common_steps)
