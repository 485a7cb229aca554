use Rattle.std.proofs.lemmas.Grind.{common_steps}
use Rattle.std.proofs.Common.{◌<◌, length, arith}
use Rattle.cip_presolve.proofs.Leftovers.{old_skipped, old_taken, old_end}
use Rattle.cip_presolve.proofs.left_lists.numbers_kept.Goals as goal

pub loop-at-preserved-then-gone-at : goal.loop-at-preserved-then-gone-at
loop-at-preserved-then-gone-at c =
    let within : c.loop-at.at < length c.args.gone.now = omega arith in
    old_skipped c.loop-at.at c.loop-at.at c.args.gone.now c.loop-at.kept.items _ within c.if-gone-at.true c.loop-at.invariant

pub loop-at-preserved : goal.loop-at-preserved
loop-at-preserved c =
    let within : c.loop-at.at < length c.args.gone.now = omega arith in
    old_taken c.loop-at.at c.loop-at.at c.args.gone.now c.loop-at.kept.items c.push.new.self.items _ within c.if-gone-at.false c.in_ok-push.ensures.items c.loop-at.invariant

pub returns : goal.returns
returns c = old_end c.loop-at.at c.loop-at.at c.args.gone.now c.loop-at.kept.items _ (omega arith) c.loop-at.invariant

pub overflow_cast-at : goal.overflow_cast-at
overflow_cast-at c = grind (arith, common_steps)

pub bounds-gone-at : goal.bounds-gone-at
bounds-gone-at c = grind (arith, common_steps)

pub loop-at-init : goal.loop-at-init
loop-at-init c = grind (arith, common_steps)
