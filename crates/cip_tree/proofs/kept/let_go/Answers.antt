use Rattle.std.proofs.lemmas.Grind.{common_steps}
use Rattle.std.proofs.Common.{◌≡◌, Some, None, sym, ap, ◌∙◌, arith}
use Rattle.std.proofs.lemmas.Option.{same_Some}
use Rattle.cip_tree.specs.Slots.{Slot}
use Rattle.cip_tree.proofs.Keeping.{root_kept, root_released, child_kept, child_released, child_next, parent_used}
use Rattle.cip_tree.specs.Slots.{IsKeptBut}
use Rattle.std.proofs.Common.{subst, IfSome, cond}
use Rattle.cip_tree.specs.Slots.{IsUnused, IsUsed, IsLowered}
use Rattle.cip_tree.proofs.kept.let_go.Goals as goal

pub returns-in_default-clause-kept : goal.returns-in_default-clause-kept
returns-in_default-clause-kept c =
    let empty : c.remove-gone.result.below ≡ 0 = sym (ap (λ (s : Slot). s.below) (same_Some _ _ (sym c.requires.idle.found ∙ c.remove-gone.ensures.value))) ∙ c.requires.idle.none_below in
    root_kept c.args.kept.now.slots c.remove-gone.new.self.slots c.args.place c.remove-gone.result c.requires.kept c.remove-gone.ensures.value empty
    (sym (ap (λ (s : Slot). s.origin) c.gone.view_is) ∙ c.in_default.is) c.remove-gone.ensures.updates.changed c.remove-gone.ensures.updates.others

pub lower-requires : goal.lower-requires
lower-requires c =
    subst (IsUsed c.remove-gone.new.self.slots) (sym c.parent-parent.ensures)
    (parent_used c.args.kept.now.slots c.remove-gone.new.self.slots c.args.place c.remove-gone.result c.requires.kept c.remove-gone.ensures.value c.in-Some.origin
    (sym (ap (λ (s : Slot). s.origin) c.gone.view_is) ∙ c.in-Some.is) c.remove-gone.ensures.updates.others)

pub returns-then-lower-clause-slots : goal.returns-then-lower-clause-slots
returns-then-lower-clause-slots c =
    let lowered = subst (λ n. IsLowered c.remove-gone.new.self.slots c.lower.new.kept.slots n c.lower.result) c.parent-parent.ensures c.lower.ensures.slots in
    let empty : c.remove-gone.result.below ≡ 0 = sym (ap (λ (s : Slot). s.below) (same_Some _ _ (sym c.requires.idle.found ∙ c.remove-gone.ensures.value))) ∙ c.requires.idle.none_below in
    child_released c.args.kept.now.slots c.lower.new.kept.slots c.args.place c.remove-gone.result c.requires.kept c.remove-gone.ensures.value empty c.remove-gone.new.self.slots c.in-Some.origin
    (sym (ap (λ (s : Slot). s.origin) c.gone.view_is) ∙ c.in-Some.is) c.remove-gone.ensures.updates.changed c.remove-gone.ensures.updates.others c.lower.result lowered

pub returns-then-lower-clause-next : goal.returns-then-lower-clause-next
returns-then-lower-clause-next c =
    let lowered = subst (λ n. IsLowered c.remove-gone.new.self.slots c.lower.new.kept.slots n c.lower.result) c.parent-parent.ensures c.lower.ensures.slots in
    let empty : c.remove-gone.result.below ≡ 0 = sym (ap (λ (s : Slot). s.below) (same_Some _ _ (sym c.requires.idle.found ∙ c.remove-gone.ensures.value))) ∙ c.requires.idle.none_below in
    subst (λ n. IfSome (Some n) (IsUnused c.lower.new.kept.slots)) (sym c.parent-parent.ensures)
    (subst (λ b. IfSome (cond b (Some c.in-Some.origin.parent) None) (IsUnused c.lower.new.kept.slots)) c.if-lower.true
    (child_next c.args.kept.now.slots c.lower.new.kept.slots c.args.place c.remove-gone.result c.requires.kept c.remove-gone.ensures.value empty c.remove-gone.new.self.slots c.in-Some.origin
    (sym (ap (λ (s : Slot). s.origin) c.gone.view_is) ∙ c.in-Some.is) c.remove-gone.ensures.updates.changed c.remove-gone.ensures.updates.others c.lower.result lowered))

pub returns-then-lower-clause-kept : goal.returns-then-lower-clause-kept
returns-then-lower-clause-kept c =
    let lowered = subst (λ n. IsLowered c.remove-gone.new.self.slots c.lower.new.kept.slots n c.lower.result) c.parent-parent.ensures c.lower.ensures.slots in
    let empty : c.remove-gone.result.below ≡ 0 = sym (ap (λ (s : Slot). s.below) (same_Some _ _ (sym c.requires.idle.found ∙ c.remove-gone.ensures.value))) ∙ c.requires.idle.none_below in
    subst (λ n. IsKeptBut (Some n) c.lower.new.kept.slots) (sym c.parent-parent.ensures)
    (subst (λ b. IsKeptBut (cond b (Some c.in-Some.origin.parent) None) c.lower.new.kept.slots) c.if-lower.true
    (child_kept c.args.kept.now.slots c.lower.new.kept.slots c.args.place c.remove-gone.result c.requires.kept c.remove-gone.ensures.value empty c.remove-gone.new.self.slots c.in-Some.origin
    (sym (ap (λ (s : Slot). s.origin) c.gone.view_is) ∙ c.in-Some.is) c.remove-gone.ensures.updates.changed c.remove-gone.ensures.updates.others c.lower.result lowered))

pub returns-clause-slots : goal.returns-clause-slots
returns-clause-slots c =
    let lowered = subst (λ n. IsLowered c.remove-gone.new.self.slots c.lower.new.kept.slots n c.lower.result) c.parent-parent.ensures c.lower.ensures.slots in
    let empty : c.remove-gone.result.below ≡ 0 = sym (ap (λ (s : Slot). s.below) (same_Some _ _ (sym c.requires.idle.found ∙ c.remove-gone.ensures.value))) ∙ c.requires.idle.none_below in
    child_released c.args.kept.now.slots c.lower.new.kept.slots c.args.place c.remove-gone.result c.requires.kept c.remove-gone.ensures.value empty c.remove-gone.new.self.slots c.in-Some.origin
    (sym (ap (λ (s : Slot). s.origin) c.gone.view_is) ∙ c.in-Some.is) c.remove-gone.ensures.updates.changed c.remove-gone.ensures.updates.others c.lower.result lowered

pub returns-clause-kept : goal.returns-clause-kept
returns-clause-kept c =
    let lowered = subst (λ n. IsLowered c.remove-gone.new.self.slots c.lower.new.kept.slots n c.lower.result) c.parent-parent.ensures c.lower.ensures.slots in
    let empty : c.remove-gone.result.below ≡ 0 = sym (ap (λ (s : Slot). s.below) (same_Some _ _ (sym c.requires.idle.found ∙ c.remove-gone.ensures.value))) ∙ c.requires.idle.none_below in
    subst (λ b. IsKeptBut (cond b (Some c.in-Some.origin.parent) None) c.lower.new.kept.slots) c.if-lower.false
    (child_kept c.args.kept.now.slots c.lower.new.kept.slots c.args.place c.remove-gone.result c.requires.kept c.remove-gone.ensures.value empty c.remove-gone.new.self.slots c.in-Some.origin
    (sym (ap (λ (s : Slot). s.origin) c.gone.view_is) ∙ c.in-Some.is) c.remove-gone.ensures.updates.changed c.remove-gone.ensures.updates.others c.lower.result lowered)

pub returns-clause-capacity : goal.returns-clause-capacity
returns-clause-capacity c = grind (arith, common_steps)

pub returns-then-lower-clause-capacity : goal.returns-then-lower-clause-capacity
returns-then-lower-clause-capacity c = grind (arith, common_steps)

pub returns-clause-len : goal.returns-clause-len
returns-clause-len c = grind (arith, common_steps)

pub returns-then-lower-clause-len : goal.returns-then-lower-clause-len
returns-then-lower-clause-len c = grind (arith, common_steps)

pub returns-in_default-clause-capacity : goal.returns-in_default-clause-capacity
returns-in_default-clause-capacity c = grind (arith, common_steps)

pub returns-clause-next : goal.returns-clause-next
returns-clause-next c = grind (arith, common_steps)

pub returns-in_default-clause-len : goal.returns-in_default-clause-len
returns-in_default-clause-len c = grind (arith, common_steps)

pub returns-in_default-clause-next : goal.returns-in_default-clause-next
returns-in_default-clause-next c = grind (arith, common_steps)

pub remove-gone-requires : goal.remove-gone-requires
remove-gone-requires c = grind (arith, common_steps)

pub returns-in_default-clause-slots : goal.returns-in_default-clause-slots
returns-in_default-clause-slots c =
    let empty : c.remove-gone.result.below ≡ 0 = sym
    (ap (λ (s : Slot). s.below) (same_Some _ _ (sym c.requires.idle.found ∙ c.remove-gone.ensures.value)))
    ∙ c.requires.idle.none_below in
    root_released c.args.kept.now.slots c.remove-gone.new.self.slots c.args.place c.remove-gone.result c.requires.kept
    c.remove-gone.ensures.value empty
    (sym (ap (λ (s : Slot). s.origin) c.gone.view_is) ∙ c.in_default.is) c.remove-gone.ensures.updates.changed
    c.remove-gone.ensures.updates.others
