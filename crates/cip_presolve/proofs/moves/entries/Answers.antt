use Rattle.std.proofs.lemmas.Result.{IfOk-from_err}
use Rattle.cip_presolve.proofs.Plans.{entry_more, all_entries}
use Rattle.std.proofs.lemmas.Grind.{common_steps}
use Rattle.std.proofs.Common.{arith, sym}
use Rattle.cip_presolve.proofs.moves.entries.Goals as goal

pub loop-column-init : goal.loop-column-init
loop-column-init c = grind (arith, common_steps)

pub loop-column-preserved : goal.loop-column-preserved
loop-column-preserved c =
    entry_more c.args.forms.now c.args.targets.now c.loop-column.plan.items c.push.new.self.items c.in-Ok.target
    c.loop-column.column
    c.index-forms-column.result c.index-forms-column.result c.loop-column.invariant (sym c.index-forms-column.is)
    c.loop-column-test.true
    c.in-Ok.ensures c.in_ok-push-in-Ok.ensures.items

pub bounds-forms-column : goal.bounds-forms-column
bounds-forms-column c = grind (arith, common_steps)

pub overflow_cast-column : goal.overflow_cast-column
overflow_cast-column c = grind (arith, common_steps)

pub offset_bounds-forms-column : goal.offset_bounds-forms-column
offset_bounds-forms-column c = grind (arith, common_steps)

pub returns-in_err-push-in-Ok : goal.returns-in_err-push-in-Ok
returns-in_err-push-in-Ok c = IfOk-from_err c.from_residual.result _ c.from_residual.ensures.0

pub returns : goal.returns
returns c =
    all_entries c.args.forms.now c.args.targets.now c.loop-column.plan.items c.loop-column.column
    c.loop-column.invariant
    (omega (arith, c.loop-column-test.false, c.loop-column.auto.column-end))
