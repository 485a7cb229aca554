use Rattle.std.proofs.lemmas.Grind.{common_steps}
use Rattle.std.proofs.Common.{◌<◌, length, arith}
use Rattle.cip_leaf.proofs.ListSteps.{kept_more, kept_end}
use Rattle.cip_leaf.proofs.Steps.{skipped}
use Rattle.cip_leaf.proofs.lists.continuous_sides.Goals as goal

pub loop-at-preserved-then-whole-at : goal.loop-at-preserved-then-whole-at
loop-at-preserved-then-whole-at c =
    skipped c.loop-at.at c.args.whole.now c.args.sides.now c.loop-at.bounds _ c.requires c.if-whole-at.true c.loop-at.invariant

pub loop-at-preserved : goal.loop-at-preserved
loop-at-preserved c =
    let within : c.loop-at.at < length c.args.whole.now = omega arith in
    kept_more c.loop-at.at c.args.whole.now c.args.sides.now c.index-sides-at.result c.loop-at.bounds c.push.new.self _ c.requires within c.if-whole-at.false c.index-sides-at.is c.in_ok-push.ensures.ok c.loop-at.invariant

pub returns : goal.returns
returns c = kept_end c.loop-at.at c.args.whole.now c.args.sides.now c.loop-at.bounds _ c.requires (omega arith) c.loop-at.invariant

pub bounds-sides-at : goal.bounds-sides-at
bounds-sides-at c = omega arith

pub loop-at-init : goal.loop-at-init
loop-at-init c = grind (arith, common_steps)

pub offset_bounds-sides-at : goal.offset_bounds-sides-at
offset_bounds-sides-at c = grind (arith, common_steps)

pub bounds-whole-at : goal.bounds-whole-at
bounds-whole-at c = grind (arith, common_steps)

pub same-bounds : goal.same-bounds
same-bounds c = grind (arith, common_steps)
