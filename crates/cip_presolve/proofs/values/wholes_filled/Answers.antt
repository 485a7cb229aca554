use Rattle.std.proofs.lemmas.Result.{IfOk-from_err}
use Rattle.std.proofs.lemmas.Grind.{common_steps}
use Rattle.std.proofs.Common.{◌<◌, ◌≤◌, ◌++◌, sym, ap, ◌∙◌, subst, true≢false, arith}
use Rattle.std.specs.Prelude.{IsOk}
use Rattle.cip_presolve.specs.Leaf.{at_wholes}
use Rattle.cip_presolve.specs.Forms.{filled}
use Rattle.cip_presolve.proofs.FilledPoints.{below_both, whole_skipped, whole_taken, all_taken, fits_at}
use Rattle.cip_presolve.proofs.values.wholes_filled.Goals as goal

pub loop-column-init : goal.loop-column-init
loop-column-init c = ap (λ t. t ++ at_wholes c.args.whole.now (filled c.args.forms.now c.args.point.now c.args.point.now)) c.new-all.ensures.items

pub bounds-whole-column : goal.bounds-whole-column
bounds-whole-column c = (below_both _ _ _ _ c.min-column-end.ensures c.loop-column-test.true).1

pub bounds-forms-column : goal.bounds-forms-column
bounds-forms-column c = (below_both _ _ _ _ c.min-column-end.ensures c.loop-column-test.true).0

pub value_outcome-requires : goal.value_outcome-requires
value_outcome-requires c = subst (λ n. c.loop-column.column < n) c.requires.long (below_both _ _ _ _ c.min-column-end.ensures c.loop-column-test.true).0

pub loop-column-preserved-then-not-whole-column : goal.loop-column-preserved-then-not-whole-column
loop-column-preserved-then-not-whole-column c =
    let both = below_both _ _ _ _ c.min-column-end.ensures c.loop-column-test.true in
    whole_skipped c.args.forms.now c.args.whole.now c.args.point.now c.loop-column.all.items _ c.loop-column.column c.requires.long both.0 both.1 c.if-not-whole-column.true c.loop-column.invariant

pub loop-column-preserved : goal.loop-column-preserved
loop-column-preserved c =
    let both = below_both _ _ _ _ c.min-column-end.ensures c.loop-column-test.true in
    whole_taken c.args.forms.now c.args.whole.now c.args.point.now c.loop-column.all.items _ _ c.loop-column.column c.index-forms-column.result c.index-forms-column.result c.in-Ok.value
    c.requires.long both.0 both.1 c.if-not-whole-column.false (sym c.index-forms-column.is) (sym c.in-Ok.ensures) c.loop-column.invariant c.in_ok-push-in-Ok.ensures.items

pub returns : goal.returns
returns c =
    all_taken c.args.forms.now c.args.whole.now c.args.point.now c.loop-column.all.items _ c.loop-column.column (subst (λ n. n ≤ c.loop-column.column) c.min-column-end.ensures c.loop-column-test.false) c.loop-column.invariant

pub offset_bounds-forms-column : goal.offset_bounds-forms-column
offset_bounds-forms-column c = grind (arith, common_steps)

pub unreachable-requires : goal.unreachable-requires
unreachable-requires c =
    let both = below_both _ _ _ _ c.min-column-end.ensures c.loop-column-test.true in
    true≢false (sym (subst IsOk (sym c.value_outcome.ensures ∙ c.in-Err.is)
    (fits_at c.args.forms.now c.args.whole.now c.args.point.now c.loop-column.column c.index-forms-column.result c.index-forms-column.result c.requires.fit both.0 both.1 c.if-not-whole-column.false (sym c.index-forms-column.is))))

pub unreachable-unreachable : goal.unreachable-unreachable
unreachable-unreachable c = grind (arith, common_steps)

pub returns-in_err-push-in-Ok : goal.returns-in_err-push-in-Ok
returns-in_err-push-in-Ok c = IfOk-from_err c.from_residual.result _ c.from_residual.ensures.0
