use Rattle.std.proofs.lemmas.Grind.{common_steps}
use Rattle.std.proofs.Common.{◌++◌, ◌∷◌, [], ap, sym, ◌∙◌, arith}
use Rattle.std.specs.Prelude.{map, is_none}
use Rattle.cip_presolve.proofs.Placed.{not_some, one_left, all_left}
use Rattle.cip_presolve.proofs.places.columns_left.Goals as goal

pub loop-form-init : goal.loop-form-init
loop-form-init c = ap (λ t. t ++ map is_none c.args.forms.now) c.new-left.ensures.items

pub loop-form-preserved : goal.loop-form-preserved
loop-form-preserved c =
    one_left c.args.forms.now c.loop-form.left.items _ _ c.loop-form.form-index c.form-item.result c.form-item.result c.loop-form-test.true (sym c.form-item.is) c.loop-form.invariant
    (c.in_ok-push.ensures.items ∙ ap (λ t. c.loop-form.left.items ++ t ∷ []) (not_some c.form-item.result c.is_none.result c.is_none.ensures))

pub returns : goal.returns
returns c = all_left c.args.forms.now c.loop-form.left.items _ c.loop-form.form-index c.loop-form-test.false c.loop-form.invariant

pub offset_bounds-forms-form-index : goal.offset_bounds-forms-form-index
offset_bounds-forms-form-index c = grind (arith, common_steps)
