use Rattle.std.proofs.lemmas.Result.{IfOk-from_err}
use Rattle.std.proofs.lemmas.Grind.{common_steps}
use Rattle.std.proofs.Common.{◌<◌, ◌≤◌, min, length, arith}
use Rattle.cip_presolve.specs.EntriesLeft.{entries_left}
use Rattle.cip_presolve.proofs.Leftovers.{skipped, taken_item, left_end}
use Rattle.cip_presolve.proofs.left_lists.items_left.Goals as goal

pub loop-at-preserved-then-gone-at : goal.loop-at-preserved-then-gone-at
loop-at-preserved-then-gone-at g c =
    skipped c.loop-at.at c.args.gone.now c.args.items.now c.loop-at.left.items (entries_left c.args.gone.now c.args.items.now) c.if-gone-at.true c.loop-at.invariant

pub loop-at-preserved : goal.loop-at-preserved
loop-at-preserved g c =
    let within : c.loop-at.at < length c.args.gone.now = omega arith in
    let below : c.loop-at.at < length c.args.items.now = omega (arith, c.requires) in
    taken_item c.loop-at.at c.args.gone.now c.args.items.now c.index-items-at.result c.loop-at.left.items c.push.new.self.items (entries_left c.args.gone.now c.args.items.now) within below c.if-gone-at.false c.index-items-at.is c.in_ok-push.ensures.items c.loop-at.invariant

pub returns : goal.returns
returns g c =
    let past : min (length c.args.gone.now) (length c.args.items.now) ≤ c.loop-at.at = omega arith in
    left_end c.loop-at.at c.args.gone.now c.args.items.now c.loop-at.left.items (entries_left c.args.gone.now c.args.items.now) past c.loop-at.invariant

pub bounds-items-at : goal.bounds-items-at
bounds-items-at g c = omega arith

pub loop-at-init : goal.loop-at-init
loop-at-init g c = grind (arith, common_steps)

pub offset_bounds-items-at : goal.offset_bounds-items-at
offset_bounds-items-at g c = grind (arith, common_steps)

pub bounds-gone-at : goal.bounds-gone-at
bounds-gone-at g c = grind (arith, common_steps)

pub returns-in_err-push : goal.returns-in_err-push
returns-in_err-push g c = IfOk-from_err c.from_residual.result _ c.from_residual.ensures.0
