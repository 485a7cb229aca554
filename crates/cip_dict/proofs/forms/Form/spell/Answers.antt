use Rattle.std.proofs.lemmas.Grind.{common_steps}
use Rattle.std.proofs.Common.{ap, ◌∙◌, arith}
use Rattle.cip_dict.specs.WholeLines.{over}
use Rattle.cip_dict.proofs.Dense.{on_ok}
use Rattle.cip_dict.proofs.FormParts.{whole_kept, whole_view, parted_kept, parted_view, spelled_as}
use Rattle.cip_dict.proofs.forms.Form.spell.Goals as goal

pub returns-then-self : goal.returns-then-self
returns-then-self c =
    on_ok c.spell_wholes.result _ _ c.spell_wholes.ensures
    (λ e. spelled_as c.self.inside.len (over c.self.inside.below c.self.inside.wholes.items) c.args.self.now (whole_kept c.self.inside.len c.self.inside.is_whole c.self.inside.below c.self.inside.wholes.items c.self.inside.entries.items c.args.self.now c.self.invariant c.self.view_is c.if-self.true) (whole_view c.self.inside.len c.self.inside.is_whole c.self.inside.below c.self.inside.wholes.items c.self.inside.entries.items c.args.self.now c.self.invariant c.self.view_is c.if-self.true) c.spell_wholes.new.out.items (e ∙ ap (over c.self.inside.below) c.as_slice.ensures.value))

pub returns-else-self : goal.returns-else-self
returns-else-self c =
    on_ok c.extend_from_slice.result _ _ (grind (arith, common_steps))
    (λ e. spelled_as c.self.inside.len c.self.inside.entries.items c.args.self.now (parted_kept c.self.inside.len c.self.inside.is_whole c.self.inside.below c.self.inside.wholes.items c.self.inside.entries.items c.args.self.now c.self.invariant c.self.view_is c.if-self.false) (parted_view c.self.inside.len c.self.inside.is_whole c.self.inside.below c.self.inside.wholes.items c.self.inside.entries.items c.args.self.now c.self.invariant c.self.view_is c.if-self.false) c.extend_from_slice.new.self.items e)

pub spell_wholes-requires : goal.spell_wholes-requires
spell_wholes-requires c = grind (arith, common_steps)
