use Rattle.std.proofs.lemmas.Grind.{common_steps}
use Rattle.std.proofs.Common.{◌<◌, ◌≤◌, min, length, arith}
use Rattle.cip_presolve.proofs.Leftovers.{skipped, taken_item, left_end}
use Rattle.cip_presolve.proofs.left_lists.bounds_left.Goals as goal

pub loop-at-preserved-then-gone-at : goal.loop-at-preserved-then-gone-at
loop-at-preserved-then-gone-at c =
    skipped c.loop-at.at c.args.gone.now c.args.sides.now c.loop-at.left _ c.if-gone-at.true c.loop-at.invariant

pub loop-at-preserved : goal.loop-at-preserved
loop-at-preserved c =
    let within : c.loop-at.at < length c.args.gone.now = omega arith in
    let below : c.loop-at.at < length c.args.sides.now = omega (arith, c.requires) in
    taken_item c.loop-at.at c.args.gone.now c.args.sides.now c.index-sides-at.result c.loop-at.left c.push.new.self _ within below c.if-gone-at.false c.index-sides-at.is c.in_ok-push.ensures.ok c.loop-at.invariant

pub returns : goal.returns
returns c =
    let past : min (length c.args.gone.now) (length c.args.sides.now) ≤ c.loop-at.at = omega arith in
    left_end c.loop-at.at c.args.gone.now c.args.sides.now c.loop-at.left _ past c.loop-at.invariant

pub bounds-sides-at : goal.bounds-sides-at
bounds-sides-at c = omega arith

pub loop-at-init : goal.loop-at-init
loop-at-init c = grind (arith, common_steps)

pub offset_bounds-sides-at : goal.offset_bounds-sides-at
offset_bounds-sides-at c = grind (arith, common_steps)

pub bounds-gone-at : goal.bounds-gone-at
bounds-gone-at c = grind (arith, common_steps)

pub same-left : goal.same-left
same-left c = grind (arith, common_steps)
