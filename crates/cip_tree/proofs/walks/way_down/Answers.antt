use Rattle.std.proofs.Common.{◌≡◌, Some, None, sym, ap, ◌∙◌}
use Rattle.std.proofs.lemmas.Option.{none-some}
use Rattle.cip_tree.specs.Origins.{Origin}
use Rattle.cip_tree.specs.Slots.{Slot, slot_at}
use Rattle.cip_tree.proofs.Keeping.{same_slot}
use Rattle.cip_tree.proofs.Walking.{parent_missing}
use Rattle.cip_tree.proofs.walks.way_down.Goals as goal

pub returns-in_default : goal.returns-in_default
returns-in_default c = λ parent p. none-some p.slot (c.in_default.ensures ∙ p.found)

pub returns-in_default-origin : goal.returns-in_default-origin
returns-in_default-origin c = λ parent p.
    none-some (record { parent = parent; change = p.change })
    (sym c.in_default-origin.is ∙ ap (λ (t : Slot). t.origin) (c.slot.view_is ∙ same_slot c.args.kept.now.slots c.args.place c.in-Some.slot.now p.slot (sym c.in-Some.ensures) p.found) ∙ p.origin)

pub returns-in_default-get : goal.returns-in_default-get
returns-in_default-get c = λ parent p.
    let s = c.in-Some.slot.now in
    let here : slot_at c.args.kept.now.slots c.args.place ≡ Some s = sym c.in-Some.ensures in
    let o : Origin = c.in-Some-origin.origin in
    let from : s.origin ≡ Some o = sym (ap (λ (t : Slot). t.origin) c.slot.view_is) ∙ c.in-Some-origin.is in
    let none : slot_at c.args.kept.now.slots o.parent ≡ None = ap (slot_at c.args.kept.now.slots) (sym c.parent.ensures) ∙ sym c.in_default-get.ensures in
    parent_missing c.args.kept.now.slots c.args.place s o c.requires here from none

pub returns : goal.returns
returns c =
    let s = c.in-Some.slot.now in
    let o : Origin = c.in-Some-origin.origin in
    record {
      slot = s;
      found = sym c.in-Some.ensures;
      number_is = ap (λ (t : Slot). t.number) c.slot.view_is;
      origin_is = sym (ap (λ (t : Slot). t.origin) c.slot.view_is) ∙ c.in-Some-origin.is;
      parent = c.in-Some-get.above.now;
      parent_found = ap (slot_at c.args.kept.now.slots) (sym c.parent.ensures) ∙ sym c.in-Some-get.ensures;
      notes_are = c.as_slice.ensures.value ∙ ap (λ (t : Slot). t.notes) c.above.view_is;
    }
