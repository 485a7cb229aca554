-- What holds where a node has other notes and another stage.
use Rattle.cip_tree.specs.declared.notes.Note.{Note}
use Rattle.cip_tree.specs.Notes.{noted}
use Rattle.std.proofs.Common.{◌≡◌, ◌≢◌, inl, inr, ℕ, ◌+◌, ◌<◌, Bool, List, ◌++◌, count_by, Option, None, Some, IfSome, refl, sym, ap, ◌∙◌, subst, arith}
use Rattle.std.proofs.lemmas.Bool.{cases_eq}
use Rattle.std.proofs.lemmas.Option.{same_Some}
use Rattle.cip_tree.specs.declared.kept.Stage.{Stage}
use Rattle.cip_tree.specs.declared.kept.Stage.TheVariants.{Ended}
use Rattle.cip_tree.specs.Origins.{Origin}
use Rattle.cip_tree.specs.Slots.{Slot, Slots, slot_at, comes_from, above, slot_changes, changes_at, HasParent, AreSoundSlots, IsRestaged}
use Rattle.cip_tree.specs.Inside.{base_of, has_stage}
use Rattle.cip_tree.proofs.Keeping.{one_if, count_changed, none_or_slot, same_slot}
use Rattle.cip_tree.proofs.Paths.{KeepsPaths, same_above, same_base}

module _ (old new : Slots) (n : ℕ) (had notes : List Note) (stage : Stage) (h : IsRestaged old new n had notes stage) (kept : AreSoundSlots old) (live : h.slot.stage ≢ Ended) (still : stage ≢ Ended) where
  -- no parent stands there
  parent_apart : (s : Slot) (o : Origin) → HasParent old s o → o.parent ≢ n
  parent_apart s o p e = live (ap (λ (t : Slot). t.stage) (same_slot old n h.slot p.parent h.was (ap (slot_at old) (sym e) ∙ p.found)) ∙ p.ended)

  -- a slot of the new ones stood there before, perhaps with other notes and another stage
  was_there : (k : ℕ) (s : Slot) → slot_at new k ≡ Some s → (t : Slot) × (slot_at old k ≡ Some t) × (t.origin ≡ s.origin) × (t.number ≡ s.number) × (t.below ≡ s.below) × (s.stage ≡ Ended → t.stage ≡ Ended)
  was_there k s e = elim (cases_eq k n) [
    | inl same ↦
        let t : record h.slot { notes = notes; stage = stage } ≡ s = same_Some _ _ (sym h.now ∙ ap (slot_at new) (sym same) ∙ e) in
        (h.slot, ap (slot_at old) same ∙ h.was, ap (λ (x : Slot). x.origin) t, ap (λ (x : Slot). x.number) t, ap (λ (x : Slot). x.below) t, λ f. absurd (still (ap (λ (x : Slot). x.stage) t ∙ f)))
    | inr apart ↦ (s, sym (h.others k apart) ∙ e, refl, refl, refl, λ f. f)
  ]

  has_parent : (s t : Slot) → t.number ≡ s.number → (o : Option Origin) → IfSome o (HasParent old t) → IfSome o (HasParent new s)
  has_parent s t e None p = tt
  has_parent s t e (Some o) p = record {
    parent = p.parent;
    found = h.others o.parent (parent_apart t o p) ∙ p.found;
    ended = p.ended;
    lower = subst (λ m. p.parent.number < m) e p.lower;
  }

  same_counts : (k : ℕ) → count_by (comes_from k) new ≡ count_by (comes_from k) old
  same_counts k = omega (arith, count_changed (comes_from k) refl old new n h.others, ap (λ o. one_if (comes_from k o)) h.was, ap (λ o. one_if (comes_from k o)) h.now)

  pub kept_new : AreSoundSlots new
  kept_new = record {
    parents = λ k s e. let w = was_there k s e in has_parent s w.0 w.3 s.origin (subst (λ o. IfSome o (HasParent old w.0)) w.2 (kept.parents k w.0 w.1));
    counts = λ k s e. let w = was_there k s e in sym w.4 ∙ kept.counts k w.0 w.1 ∙ sym (same_counts k);
    apart = λ j k s t e f g. let v = was_there j s e in let w = was_there k t f in kept.apart j k v.0 w.0 v.1 w.1 (v.3 ∙ g ∙ sym w.3);
    used = λ k s e f i. let w = was_there k s e in subst (λ m. 0 < m) w.4 (kept.used k w.0 w.1 (w.5 f) i);
  }

  pub given_new : (ids : ℕ) → ((k : ℕ) (s : Slot) → slot_at old k ≡ Some s → s.number < ids) → (k : ℕ) (s : Slot) → slot_at new k ≡ Some s → s.number < ids
  given_new ids g k s e = let w = was_there k s e in subst (λ m. m < ids) w.3 (g k w.0 w.1)

  is_up : (k : ℕ) (s : Slot) (o : Origin) → slot_at old k ≡ Some s → s.origin ≡ Some o → (o.parent ≢ n) × ((t : Slot) × (slot_at new o.parent ≡ Some t))
  is_up k s o e f =
      let p : HasParent old s o = subst (λ x. IfSome x (HasParent old s)) f (kept.parents k s e) in
      (parent_apart s o p, (p.parent, h.others o.parent (parent_apart s o p) ∙ p.found))

  pub keeps : KeepsPaths old new (λ k. k ≢ n)
  keeps = record {
    same = λ k s d e. (s.below, sym (h.others k d) ∙ e);
    up = λ k s o d e f. is_up k s o (sym (h.others k d) ∙ e) f;
  }

  up_here : (o : Option Origin) → h.slot.origin ≡ o → IfSome o (λ x. (x.parent ≢ n) × ((t : Slot) × (slot_at new x.parent ≡ Some t)))
  up_here None e = tt
  up_here (Some o) e = is_up n h.slot o h.was e

  pub above_here : (f : ℕ) → above f new h.slot.origin ≡ above f old h.slot.origin
  above_here f = same_above old new (λ k. k ≢ n) keeps f h.slot.origin (up_here h.slot.origin refl)

  -- the changes there are the notes and what was above
  pub changes_here : changes_at new n ≡ noted notes ++ above h.slot.number old h.slot.origin
  changes_here = ap (slot_changes new) h.now ∙ ap (λ r. noted notes ++ r) (above_here h.slot.number)

  pub base_others : (k : ℕ) → k ≢ n → base_of new (slot_at new k) ≡ base_of old (slot_at old k)
  base_others k d = elim (none_or_slot (slot_at new k)) [
    | inl e ↦ ap (base_of new) e ∙ sym (ap (base_of old) (sym (h.others k d) ∙ e))
    | inr (s, e) ↦ same_base old new (λ k. k ≢ n) keeps k s d e
  ]

  -- how many nodes are at some stages
  pub stage_count : (test : Stage → Bool) → count_by (has_stage test) new + one_if (test h.slot.stage) ≡ count_by (has_stage test) old + one_if (test stage)
  stage_count test = omega (arith, count_changed (has_stage test) refl old new n h.others, ap (λ o. one_if (has_stage test o)) h.was, ap (λ o. one_if (has_stage test o)) h.now)
