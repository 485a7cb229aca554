use Rattle.std.proofs.lemmas.Grind.{common_steps}
use Rattle.std.proofs.Common.{ap, ◌∙◌, arith}
use Rattle.std.specs.Prelude.{is_some}
use Rattle.cip_presolve.proofs.Leftovers.{map_more, map_end}
use Rattle.cip_presolve.proofs.left_lists.gone_of.Goals as goal

pub loop-form-preserved : goal.loop-form-preserved
loop-form-preserved c =
    map_more is_some c.loop-form.form-index c.args.forms.now c.form-item.result c.loop-form.gone.items c.push.new.self.items _ _ c.loop-form-test.true (c.is_some.ensures ∙ ap is_some c.form-item.is) c.in_ok-push.ensures.items c.loop-form.invariant

pub returns : goal.returns
returns c = map_end is_some c.loop-form.form-index c.args.forms.now c.loop-form.gone.items _ (omega arith) c.loop-form.invariant

pub offset_bounds-forms-form-index : goal.offset_bounds-forms-form-index
offset_bounds-forms-form-index c = grind (arith, common_steps)

pub loop-form-init : goal.loop-form-init
loop-form-init c = grind (arith, common_steps)
