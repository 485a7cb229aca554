use Rattle.std.proofs.lemmas.Grind.{common_steps}
use Rattle.std.proofs.Common.{◌<◌, length, arith}
use Rattle.cip_presolve.proofs.Leftovers.{new_skipped, new_taken, new_end}
use Rattle.cip_presolve.proofs.left_lists.numbers_left.Goals as goal

pub loop-at-preserved-then-gone-at : goal.loop-at-preserved-then-gone-at
loop-at-preserved-then-gone-at c =
    let within : c.loop-at.at < length c.args.gone.now = omega arith in
    record {
      rest = new_skipped c.loop-at.count c.loop-at.at c.args.gone.now c.loop-at.numbers.items c.push.new.self.items _ within c.if-gone-at.true c.in_ok-push.ensures.items c.loop-at.invariant.rest;
      few = omega (arith, c.loop-at.invariant.few);
    }

pub loop-at-preserved : goal.loop-at-preserved
loop-at-preserved c =
    let within : c.loop-at.at < length c.args.gone.now = omega arith in
    record {
      rest = new_taken c.loop-at.count c.loop-at.at c.args.gone.now c.loop-at.numbers.items c.push.new.self.items _ within c.if-gone-at.false c.in_ok-push.ensures.items c.loop-at.invariant.rest;
      few = omega (arith, c.loop-at.invariant.few);
    }

pub returns : goal.returns
returns c = new_end c.loop-at.count c.loop-at.at c.args.gone.now c.loop-at.numbers.items _ (omega arith) c.loop-at.invariant.rest

pub overflow_add-count : goal.overflow_add-count
overflow_add-count c = omega arith

pub loop-at-init : goal.loop-at-init
loop-at-init c = grind (arith, common_steps)
