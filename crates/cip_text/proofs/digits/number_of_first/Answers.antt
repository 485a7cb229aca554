use Rattle.std.proofs.lemmas.Grind.{common_steps}
use Rattle.std.proofs.Common.{arith, ◌-◌, length}
use Rattle.cip_text.proofs.DigitLists.{digits_left, digits_right, digits_take}
use Rattle.cip_text.proofs.Grown.{first_over, first_some}
use Rattle.cip_text.proofs.digits.number_of_first.Goals as goal

pub grow-requires-clause-are_digits : goal.grow-requires-clause-are_digits
grow-requires-clause-are_digits c = digits_take c.args.count c.args.whole.now (digits_left c.args.whole.now c.args.decimals.now c.requires.are_digits)

pub grow-requires-in-Some-clause-are_digits : goal.grow-requires-in-Some-clause-are_digits
grow-requires-in-Some-clause-are_digits c =
    digits_take (c.args.count - length c.args.whole.now) c.args.decimals.now (digits_right c.args.whole.now c.args.decimals.now c.requires.are_digits)

pub returns-in-None : goal.returns-in-None
returns-in-None c = first_over c.args.whole.now c.args.decimals.now c.args.count (omega arith) c.in-None.ensures

pub returns-in-Some : goal.returns-in-Some
returns-in-Some c =
    first_some c.args.whole.now c.args.decimals.now c.args.count c.in-Some.start c.grow-in-Some.result (omega arith) c.in-Some.ensures c.grow-in-Some.ensures

pub grow-requires-2-clause-are_digits : goal.grow-requires-2-clause-are_digits
grow-requires-2-clause-are_digits c = grind (arith, common_steps)

pub returns-then-count-whole : goal.returns-then-count-whole
returns-then-count-whole c = grind (arith, common_steps)

pub slice_bounds-grow-length : goal.slice_bounds-grow-length
slice_bounds-grow-length c = grind (arith, common_steps)

pub grow-requires-in-Some-clause-small : goal.grow-requires-in-Some-clause-small
grow-requires-in-Some-clause-small c = grind (arith, common_steps)

pub slice_bounds-grow-end : goal.slice_bounds-grow-end
slice_bounds-grow-end c = grind (arith, common_steps)

pub slice_bounds-grow-count : goal.slice_bounds-grow-count
slice_bounds-grow-count c = grind (arith, common_steps)
