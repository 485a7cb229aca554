use Rattle.std.proofs.lemmas.Grind.{common_steps}
use Rattle.std.proofs.Common.{arith}
use Rattle.cip_text.proofs.Grown.{grow_over, grow_more}
use Rattle.cip_text.proofs.digits.grow.Goals as goal

pub returns-in_default : goal.returns-in_default
returns-in_default c =
    grow_over c.args.start c.args.digits.now c.loop-digit.digit-index c.loop-digit.value c.loop-digit-test.true c.loop-digit.invariant.so_far c.in_default.ensures

pub loop-digit-preserved : goal.loop-digit-preserved
loop-digit-preserved c =
    let g = grow_more c.args.start c.args.digits.now c.loop-digit.digit-index c.loop-digit.value c.in-Some.next c.loop-digit-test.true c.loop-digit.invariant.so_far c.in-Some.ensures in
    record { small = g.small; so_far = g.so_far }

pub with_digit-requires-clause-is_digit : goal.with_digit-requires-clause-is_digit
with_digit-requires-clause-is_digit c = grind (arith, common_steps)

pub returns : goal.returns
returns c = grind (arith, common_steps)

pub with_digit-requires-clause-small : goal.with_digit-requires-clause-small
with_digit-requires-clause-small c = grind (arith, common_steps)
