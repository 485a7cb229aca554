-- A tree of one node is in order.
use Rattle.cip_domain.specs.Changes.{Region}
use Rattle.cip_tree.specs.Nodes.{node_in}
use Rattle.std.proofs.Common.{◌≡◌, ◌≢◌, inl, inr, ℕ, ◌≤◌, Bool, true, false, [], ◌∷◌, count_by, get_or, Option, None, Some, IfSome, refl, sym, ap, ◌∙◌, subst, arith}
use Rattle.std.proofs.lemmas.Bool.{cases_eq}
use Rattle.std.proofs.lemmas.Option.{none-some, same_Some}
use Rattle.std.proofs.lemmas.List.Elements.{All-cons, All-nil}
use Rattle.std.proofs.lemmas.List.Sums.{sum_by-cons}
use Rattle.cip_tree.specs.declared.kept.Stage.TheVariants.{Open, Parked, Ended}
use Rattle.cip_tree.specs.declared.queue.OpenNode.{OpenNode}
use Rattle.cip_tree.specs.Slots.{Slot, Slots, slot_at, open_slot, comes_from, changes_at, slot_changes, HasParent, AreSoundSlots}
use Rattle.cip_tree.specs.Origins.{after}
use Rattle.cip_tree.specs.Inside.{nodes_at, base_of, bases, is_waiting, is_taken, is_aside, has_stage, is_at, StandsAs, IsInOrder}
use Rattle.cip_tree.proofs.Keeping.{one_if, sum_same, sum_changed}
use Rattle.cip_tree.proofs.Paths.{bases_at}

module _ (slots : Slots) (place : ℕ) (here : slot_at slots place ≡ Some (open_slot 0 None)) (others : (k : ℕ) → k ≢ place → slot_at slots k ≡ None) where
  -- each slot is that of the root, or empty
  only_root : (k : ℕ) (s : Slot) → slot_at slots k ≡ Some s → (k ≡ place) × (open_slot 0 None ≡ s)
  only_root k s e = elim (cases_eq k place) [
    | inl same ↦ (same, same_Some (open_slot 0 None) s (sym here ∙ ap (slot_at slots) (sym same) ∙ e))
    | inr apart ↦ absurd (none-some s (sym (others k apart) ∙ e))
  ]

  -- a test that the root fails counts none
  none_counted : (test : Option Slot → Bool) → test None ≡ false → test (Some (open_slot 0 None)) ≡ false → count_by test slots ≡ 0
  none_counted test e f =
      let none : (k : ℕ) → one_if (test (slot_at slots k)) ≡ 0 = λ k. elim (cases_eq k place) [
        | inl same ↦ ap (λ o. one_if (test o)) (ap (slot_at slots) same ∙ here) ∙ ap one_if f
        | inr apart ↦ ap (λ o. one_if (test o)) (others k apart) ∙ ap one_if e
      ] in
      sym (sum_same (λ o. one_if (test o)) None (ap one_if e) slots [] (λ k. ap one_if e ∙ sym (none k)))

  root_is_kept : AreSoundSlots slots
  root_is_kept = record {
    parents = λ k s e. subst (λ (t : Slot). IfSome t.origin (HasParent slots t)) (only_root k s e).1 tt;
    counts = λ k s e. sym (ap (λ (t : Slot). t.below) (only_root k s e).1) ∙ sym (none_counted (comes_from k) refl refl);
    apart = λ j k s t e f g. (only_root j s e).0 ∙ sym (only_root k t f).0;
    used = λ k s e f i. absurd (open_ended (ap (λ (t : Slot). t.stage) (only_root k s e).1 ∙ f));
  }
    where
      open_ended : Open ≡ Ended → ⊥
      open_ended e = cc

  one_counted : count_by (has_stage is_waiting) slots ≡ 1
  one_counted =
      omega (arith, sum_changed (λ o. one_if (has_stage is_waiting o)) None refl [] slots place (λ k d. ap (λ o. one_if (has_stage is_waiting o)) (others k d)), ap (λ o. one_if (has_stage is_waiting o)) here)

  pub root_order : (node : OpenNode) → node.id ≡ 0 → node.place ≡ place → IsInOrder slots (node ∷ []) [] 1 0
  root_order node e f = record {
    kept = root_is_kept;
    given = λ k s g. omega (arith, ap (λ (t : Slot). t.number) (only_root k s g).1);
    waiting = All-cons (StandsAs Open slots) node [] (record { slot = open_slot 0 None; found = ap (slot_at slots) f ∙ here; number = sym e; stage_is = refl }) (All-nil (StandsAs Open slots));
    once = λ k. omega (arith, sum_by-cons (λ x. one_if (is_at k x)) node [], at_most_one (is_at k node));
    aside = All-nil (StandsAs Parked slots);
    work = sym (none_counted (has_stage is_taken) refl refl);
    waits = sym one_counted;
    rests = sym (none_counted (has_stage is_aside) refl refl);
  }
    where
      at_most_one : (b : Bool) → one_if b ≤ 1
      at_most_one true = omega arith
      at_most_one false = omega arith

  pub root_changes : changes_at slots place ≡ []
  root_changes = ap (slot_changes slots) here

  pub root_bases : (k : ℕ) → get_or (bases slots) k None ≡ None
  root_bases k = bases_at slots k ∙ elim (cases_eq k place) [
    | inl same ↦ ap (base_of slots) (ap (slot_at slots) same ∙ here)
    | inr apart ↦ ap (base_of slots) (others k apart)
  ]

  pub root_nodes : (region : Region) (node : OpenNode) → node.place ≡ place → nodes_at region slots (node ∷ []) ≡ (node_in region node.id node.bound) ∷ []
  root_nodes region node f =
      ap (λ t. (node_in (after region t) node.id node.bound) ∷ []) (ap (changes_at slots) f ∙ root_changes)
