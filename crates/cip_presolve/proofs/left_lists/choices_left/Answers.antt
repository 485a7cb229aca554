use Rattle.std.proofs.lemmas.Grind.{common_steps}
use Rattle.std.proofs.Common.{◌≤◌, length, min, rules, arith}
use Rattle.cip_presolve.proofs.Leftovers.{skipped, left_end}
use Rattle.cip_presolve.proofs.left_lists.choices_left.Goals as goal

pub loop-at-preserved-then-gone-at : goal.loop-at-preserved-then-gone-at
loop-at-preserved-then-gone-at c =
    skipped c.loop-at.at c.args.gone.now c.args.choices.now c.loop-at.left _ c.if-gone-at.true c.loop-at.invariant

pub returns : goal.returns
returns c =
    let l : min (length c.args.gone.now) (length c.args.choices.now) ≤ c.loop-at.at = search rules in
    left_end c.loop-at.at c.args.gone.now c.args.choices.now c.loop-at.left _ l c.loop-at.invariant

pub bounds-choices-at : goal.bounds-choices-at
bounds-choices-at c = omega arith

pub loop-at-init : goal.loop-at-init
loop-at-init c = grind (arith, common_steps)

pub loop-at-preserved : goal.loop-at-preserved
loop-at-preserved c = grind (arith, common_steps)

pub offset_bounds-choices-at : goal.offset_bounds-choices-at
offset_bounds-choices-at c = grind (arith, common_steps)

pub bounds-gone-at : goal.bounds-gone-at
bounds-gone-at c = grind (arith, common_steps)
