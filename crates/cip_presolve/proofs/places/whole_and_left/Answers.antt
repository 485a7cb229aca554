use Rattle.std.proofs.lemmas.Grind.{common_steps}
use Rattle.std.proofs.Common.{◌<◌, ◌++◌, ◌∷◌, [], length, rules, sym, ap, ◌∙◌, arith}
use Rattle.cip_presolve.proofs.Placed.{one_flagged, all_flagged}
use Rattle.cip_presolve.proofs.places.whole_and_left.Goals as goal

pub loop-column-preserved : goal.loop-column-preserved
loop-column-preserved c =
    let below : c.loop-column.column < length c.args.forms.now = search rules in
    one_flagged c.args.forms.now c.args.whole.now c.loop-column.left.items _ _ c.loop-column.column c.index-forms-column.result c.index-forms-column.result below (sym c.index-forms-column.is) c.loop-column.invariant
    (c.in_ok-push.ensures.items ∙ ap (λ t. c.loop-column.left.items ++ t ∷ []) c.is_whole_left.ensures)

pub returns : goal.returns
returns c = all_flagged c.args.forms.now c.args.whole.now c.loop-column.left.items _ c.loop-column.column c.loop-column-test.false c.loop-column.invariant

pub bounds-forms-column : goal.bounds-forms-column
bounds-forms-column c = grind (arith, common_steps)

pub offset_bounds-forms-column : goal.offset_bounds-forms-column
offset_bounds-forms-column c = grind (arith, common_steps)

pub loop-column-init : goal.loop-column-init
loop-column-init c = grind (arith, common_steps)
