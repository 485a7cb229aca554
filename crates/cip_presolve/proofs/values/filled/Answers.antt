use Rattle.std.proofs.lemmas.Result.{IfOk-from_err}
use Rattle.std.proofs.lemmas.Grind.{common_steps}
use Rattle.std.proofs.Common.{◌<◌, length, rules, sym, arith}
use Rattle.cip_presolve.proofs.FilledPoints.{one_overflows, next_one, all_filled}
use Rattle.cip_presolve.proofs.values.filled.Goals as goal

pub returns-in-Err : goal.returns-in-Err
returns-in-Err c =
    let below : c.loop-column.column < length c.args.forms.now = search rules in
    one_overflows c.args.forms.now c.args.point.now c.loop-column.column c.index-forms-column.result c.index-forms-column.result c.in-Err.field-0 below (sym c.index-forms-column.is) (sym c.in-Err.ensures)

pub loop-column-preserved : goal.loop-column-preserved
loop-column-preserved c =
    let below : c.loop-column.column < length c.args.forms.now = search rules in
    next_one c.args.forms.now c.args.point.now c.loop-column.whole.items _ c.loop-column.column c.index-forms-column.result c.index-forms-column.result c.in-Ok.value
    c.loop-column.invariant c.requires below (sym c.index-forms-column.is) (sym c.in-Ok.ensures) c.in_ok-push-in-Ok.ensures.items

pub returns : goal.returns
returns c = all_filled c.args.forms.now c.args.point.now c.loop-column.whole.items c.loop-column.column c.loop-column.invariant c.loop-column-test.false

pub loop-column-init : goal.loop-column-init
loop-column-init c = grind (arith, common_steps)

pub value_outcome-requires : goal.value_outcome-requires
value_outcome-requires c = grind (arith, common_steps)

pub bounds-forms-column : goal.bounds-forms-column
bounds-forms-column c = grind (arith, common_steps)

pub offset_bounds-forms-column : goal.offset_bounds-forms-column
offset_bounds-forms-column c = grind (arith, common_steps)

pub returns-in_err-push-in-Ok : goal.returns-in_err-push-in-Ok
returns-in_err-push-in-Ok c = IfOk-from_err c.from_residual.result _ c.from_residual.ensures.0
