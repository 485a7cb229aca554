-- The changes above a node, followed up to the root.
use Rattle.cip_tree.specs.Notes.{noted}
use Rattle.std.proofs.Common.{◌≡◌, ℕ, zero, suc, ◌≤◌, ◌∷◌, ◌++◌, Option, None, Some, IfSome, refl, sym, ap, ◌∙◌, subst, arith}
use Rattle.std.proofs.lemmas.Option.{same_Some}
use Rattle.cip_tree.specs.Origins.{Origin}
use Rattle.cip_tree.specs.Slots.{Slot, Slots, slot_at, changes_of, above, HasParent, AreSoundSlots, IsBelow, IsLinked}

module _ (slots : Slots) (up : (place : ℕ) (slot : Slot) → slot_at slots place ≡ Some slot → IfSome slot.origin (IsBelow slots slot.number)) where
  -- no more steps than the number are needed
  pub enough : (f g n : ℕ) (o : Option Origin) → IfSome o (IsBelow slots n) → n ≤ f → n ≤ g → above f slots o ≡ above g slots o
  enough zero zero n o h k l = refl
  enough zero (suc g) n None h k l = refl
  enough zero (suc g) n (Some o) h k l = absurd (omega (arith, h.lower, k))
  enough (suc f) zero n None h k l = refl
  enough (suc f) zero n (Some o) h k l = absurd (omega (arith, h.lower, l))
  enough (suc f) (suc g) n None h k l = refl
  enough (suc f) (suc g) n (Some o) h k l =
      ap (λ r. o.change ∷ r)
      (ap (λ x. changes_of x (above f slots)) h.found
      ∙ ap (λ r. noted h.parent.notes ++ r) (enough f g h.parent.number h.parent.origin (up o.parent h.parent h.found) (omega (arith, h.lower, k)) (omega (arith, h.lower, l)))
      ∙ sym (ap (λ x. changes_of x (above g slots)) h.found))

  -- the change that gave a node, and the changes of its parent
  pub first_above : (f : ℕ) (o : Origin) (h : IsBelow slots f o) → above f slots (Some o) ≡ o.change ∷ (noted h.parent.notes ++ above h.parent.number slots h.parent.origin)
  first_above zero o h = absurd (omega (arith, h.lower))
  first_above (suc f) o h =
      ap (λ r. o.change ∷ r)
      (ap (λ x. changes_of x (above f slots)) h.found
      ∙ ap (λ r. noted h.parent.notes ++ r) (enough f h.parent.number h.parent.number h.parent.origin (up o.parent h.parent h.found) (omega (arith, h.lower)) (omega arith)))

below_of : (slots : Slots) (slot : Slot) (o : Option Origin) → IfSome o (HasParent slots slot) → IfSome o (IsBelow slots slot.number)
below_of slots slot None h = tt
below_of slots slot (Some o) h = record { parent = h.parent; found = h.found; lower = h.lower }

pub up_of_kept : (slots : Slots) → AreSoundSlots slots → (place : ℕ) (slot : Slot) → slot_at slots place ≡ Some slot → IfSome slot.origin (IsBelow slots slot.number)
up_of_kept slots h place slot e = below_of slots slot slot.origin (h.parents place slot e)

-- from a node to its parent: the change that gave the node, and the parent's changes
pub step_up : (slots : Slots) (number : ℕ) (origin : Option Origin) (o : Origin) (t : Slot) → IsLinked slots number origin → origin ≡ Some o → slot_at slots o.parent ≡ Some t → above number slots origin ≡ o.change ∷ (noted t.notes ++ above t.number slots t.origin)
step_up slots number origin o t h e f =
    let b : IsBelow slots number o = subst (λ x. IfSome x (IsBelow slots number)) e h.here in
    ap (above number slots) e ∙ first_above slots h.up number o b ∙ ap (λ (s : Slot). o.change ∷ (noted s.notes ++ above s.number slots s.origin)) (same_Some b.parent t (sym b.found ∙ f))
