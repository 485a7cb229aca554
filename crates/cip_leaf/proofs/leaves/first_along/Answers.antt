use Rattle.std.proofs.lemmas.Grind.{common_steps}
use Rattle.std.proofs.Common.{◌∙◌, ◌≤◌, sym, length, arith}
use Rattle.cip_leaf.proofs.Along.{fits_more, all_fit, row_overflows}
use Rattle.cip_leaf.proofs.leaves.first_along.Goals as goal

pub loop-at-preserved : goal.loop-at-preserved
loop-at-preserved c =
    fits_more c.args.rows.now c.args.ray.now c.loop-at.at c.index-rows-at.result c.activity.result c.loop-at.invariant c.index-rows-at.is c.activity.ensures.steps (sym c.is_err.ensures.value ∙ c.if-is_err.false)

pub returns : goal.returns
returns c =
    let l : length c.args.rows.now ≤ c.loop-at.at = omega arith in
    all_fit c.args.rows.now c.args.ray.now c.loop-at.at l c.loop-at.invariant

pub activity-requires : goal.activity-requires
activity-requires c = grind (arith, common_steps)

pub overflow_cast-result : goal.overflow_cast-result
overflow_cast-result c = omega arith

pub bounds-rows-at : goal.bounds-rows-at
bounds-rows-at c = grind (arith, common_steps)

pub offset_bounds-rows-at : goal.offset_bounds-rows-at
offset_bounds-rows-at c = grind (arith, common_steps)

pub returns-then-is_err : goal.returns-then-is_err
returns-then-is_err c =
    row_overflows c.args.rows.now c.args.ray.now c.loop-at.at c.index-rows-at.result c.activity.result c.loop-at-test.true
    c.index-rows-at.is c.activity.ensures.steps (sym c.is_err.ensures.value ∙ c.if-is_err.true)
