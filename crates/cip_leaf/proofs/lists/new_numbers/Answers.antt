use Rattle.std.proofs.lemmas.Grind.{common_steps}
use Rattle.std.proofs.Common.{◌<◌, length, arith}
use Rattle.cip_leaf.proofs.ListSteps.{numbered_whole, numbered_other, numbered_end}
use Rattle.cip_leaf.proofs.lists.new_numbers.Goals as goal

pub loop-at-preserved-then-whole-at : goal.loop-at-preserved-then-whole-at
loop-at-preserved-then-whole-at c =
    let within : c.loop-at.at < length c.args.whole.now = omega arith in
    record {
      rest = numbered_whole c.loop-at.count c.loop-at.at c.args.whole.now c.loop-at.numbers.items c.push.new.self.items _ within c.if-whole-at.true c.in_ok-push.ensures.items c.loop-at.invariant.rest;
      few = omega (arith, c.loop-at.invariant.few);
    }

pub loop-at-preserved : goal.loop-at-preserved
loop-at-preserved c =
    let within : c.loop-at.at < length c.args.whole.now = omega arith in
    record {
      rest = numbered_other c.loop-at.count c.loop-at.at c.args.whole.now c.loop-at.numbers.items c.push.new.self.items _ within c.if-whole-at.false c.in_ok-push.ensures.items c.loop-at.invariant.rest;
      few = omega (arith, c.loop-at.invariant.few);
    }

pub returns : goal.returns
returns c = numbered_end c.loop-at.count c.loop-at.at c.args.whole.now c.loop-at.numbers.items _ (omega arith) c.loop-at.invariant.rest

pub overflow_add-count : goal.overflow_add-count
overflow_add-count c = omega arith

pub loop-at-init : goal.loop-at-init
loop-at-init c = grind (arith, common_steps)
