use Rattle.std.proofs.lemmas.Grind.{common_steps}
use Rattle.std.proofs.Common.{sym, arith}
use Rattle.cip_text.proofs.Amounts.{capped_none, product_far}
use Rattle.cip_text.proofs.Grown.{zeros_over, zeros_more}
use Rattle.cip_text.proofs.digits.with_zeros.Goals as goal

pub returns-then-zeros-gt38 : goal.returns-then-zeros-gt38
returns-then-zeros-gt38 c = sym (capped_none _ (product_far c.args.value c.args.zeros c.requires.some c.if-zeros-gt38.true))

pub returns-in_default : goal.returns-in_default
returns-in_default c =
    zeros_over c.args.value c.loop-done.raised c.loop-done.done c.args.zeros c.loop-done-test.true c.loop-done.invariant.so_far c.in_default.ensures

pub loop-done-preserved : goal.loop-done-preserved
loop-done-preserved c =
    let g = zeros_more c.args.value c.loop-done.raised c.loop-done.done c.in-Some.next c.loop-done.invariant.so_far c.in-Some.ensures in
    record { small = g.small; so_far = g.so_far }

pub returns : goal.returns
returns c = grind (arith, common_steps)

pub with_digit-requires-clause-small : goal.with_digit-requires-clause-small
with_digit-requires-clause-small c = grind (arith, common_steps)
