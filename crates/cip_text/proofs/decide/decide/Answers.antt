use Rattle.std.proofs.lemmas.Grind.{common_steps}
use Rattle.std.proofs.Common.{◌+◌, ◌<◌, length, arith}
use Rattle.cip_text.proofs.Decided.{some_size}
use Rattle.cip_text.proofs.decide.decide.Goals as goal

pub short-requires-clause-some : goal.short-requires-clause-some
short-requires-clause-some c =
    let some : c.zeros_at_both_ends-zeros.result < length c.args.whole.now + length c.args.decimals.now = omega (arith, c.if-kept-eq0.false, c.zeros_at_both_ends-zeros.ensures.within) in
    some_size c.args.negative c.args.whole.now c.args.decimals.now c.zeros_at_both_ends-zeros.result c.requires.are_digits c.zeros_at_both_ends-zeros.ensures.value some c.in-Some.size c.in-Some.ensures

pub long-requires-clause-kept_are : goal.long-requires-clause-kept_are
long-requires-clause-kept_are c = grind (arith, common_steps)

pub returns-in-Some : goal.returns-in-Some
returns-in-Some c = grind (arith, common_steps)

pub long-requires-clause-large : goal.long-requires-clause-large
long-requires-clause-large c = grind (arith, common_steps)

pub returns-then-kept-eq0 : goal.returns-then-kept-eq0
returns-then-kept-eq0 c = grind (arith, common_steps)

pub short-requires-clause-small : goal.short-requires-clause-small
short-requires-clause-small c = grind (arith, common_steps)

pub returns-in-None : goal.returns-in-None
returns-in-None c = grind (arith, common_steps)

pub long-requires-clause-are_digits : goal.long-requires-clause-are_digits
long-requires-clause-are_digits c = grind (arith, common_steps)

pub overflow_cast-all_down : goal.overflow_cast-all_down
overflow_cast-all_down c = grind (arith, common_steps)

pub overflow_add-all_down : goal.overflow_add-all_down
overflow_add-all_down c = grind (arith, common_steps)

pub overflow_add-all_up : goal.overflow_add-all_up
overflow_add-all_up c = grind (arith, common_steps)

pub overflow_cast-all_up : goal.overflow_cast-all_up
overflow_cast-all_up c = grind (arith, common_steps)

pub number_of_first-requires-clause-are_digits : goal.number_of_first-requires-clause-are_digits
number_of_first-requires-clause-are_digits c = grind (arith, common_steps)

pub number_of_first-requires-clause-within : goal.number_of_first-requires-clause-within
number_of_first-requires-clause-within c = grind (arith, common_steps)

pub overflow_add-kept : goal.overflow_add-kept
overflow_add-kept c = grind (arith, common_steps)

pub overflow_sub-kept : goal.overflow_sub-kept
overflow_sub-kept c = grind (arith, common_steps)
