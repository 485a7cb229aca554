use Rattle.std.proofs.lemmas.Grind.{common_steps}
use Rattle.std.proofs.Common.{◌<◌, length, arith}
use Rattle.cip_leaf.proofs.ListSteps.{merged_whole, merged_other, merged_end, one_longer}
use Rattle.cip_leaf.proofs.lists.merged.Goals as goal

pub loop-at-preserved-then-whole-at : goal.loop-at-preserved-then-whole-at
loop-at-preserved-then-whole-at c =
    let within : c.loop-at.at < length c.args.whole.now = omega arith in
    record {
      rest = merged_whole c.loop-at.at c.loop-at.taken c.args.whole.now c.args.leaf.now _ c.loop-at.point.items c.push.new.self.items _ _ within c.if-whole-at.true c.value_at_or_zero.ensures c.in_ok-push.ensures.items c.loop-at.invariant.rest;
      count = one_longer _ _ _ c.loop-at.at c.in_ok-push.ensures.items c.loop-at.invariant.count;
      few_taken = omega (arith, c.loop-at.invariant.few_taken);
      few_put = omega (arith, c.loop-at.invariant.few_put);
    }

pub loop-at-preserved : goal.loop-at-preserved
loop-at-preserved c =
    let within : c.loop-at.at < length c.args.whole.now = omega arith in
    record {
      rest = merged_other c.loop-at.at c.loop-at.put c.args.whole.now _ c.args.others.now c.loop-at.point.items c.push-in-loop-at.new.self.items _ _ within c.if-whole-at.false c.value_at_or_zero-in-loop-at.ensures c.in_ok-push-2.ensures.items c.loop-at.invariant.rest;
      count = one_longer _ _ _ c.loop-at.at c.in_ok-push-2.ensures.items c.loop-at.invariant.count;
      few_taken = omega (arith, c.loop-at.invariant.few_taken);
      few_put = omega (arith, c.loop-at.invariant.few_put);
    }

pub returns-clause-merged : goal.returns-clause-merged
returns-clause-merged c = merged_end c.loop-at.at c.args.whole.now _ _ c.loop-at.point.items _ (omega arith) c.loop-at.invariant.rest

pub loop-at-init : goal.loop-at-init
loop-at-init c = grind (arith, common_steps)

pub overflow_add-put : goal.overflow_add-put
overflow_add-put c = omega arith

pub overflow_add-taken : goal.overflow_add-taken
overflow_add-taken c = omega arith

pub returns-clause-long : goal.returns-clause-long
returns-clause-long c = grind (arith, common_steps)

pub bounds-whole-at : goal.bounds-whole-at
bounds-whole-at c = grind (arith, common_steps)
