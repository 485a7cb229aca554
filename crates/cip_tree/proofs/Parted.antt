-- What holds where a node was split.
use Rattle.cip_tree.specs.declared.notes.Note.{Note}
use Rattle.cip_tree.specs.Notes.{noted}
use Rattle.cip_domain.specs.Changes.{Region}
use Rattle.cip_tree.specs.Nodes.{node_in}
use Rattle.std.proofs.Common.{◌≡◌, ◌≢◌, ◌⊎◌, inl, inr, ℕ, ◌+◌, ◌-◌, ◌<◌, ◌≤◌, ◌==◌, Bool, false, List, [], ◌∷◌, ◌++◌, count_by, get_or, set, Option, None, Some, IfSome, All, refl, sym, ap, ◌∙◌, subst, arith}
use Rattle.std.specs.List.Sorted.{IsPermutation}
use Rattle.std.proofs.lemmas.Bool.{cases_eq}
use Rattle.std.proofs.lemmas.Option.{none-some, same_Some}
use Rattle.std.proofs.lemmas.List.{get_or-set_same, get_or-set_other, length-set}
use Rattle.std.proofs.lemmas.List.Sums.{sum_by-set}
use Rattle.std.proofs.lemmas.List.Elements.{All-cons}
use Rattle.std.proofs.lemmas.List.Sorted.{All-permutation, IsPermutation-map, IsPermutation-trans, IsPermutation-cons, length_permutation}
use Rattle.cip_rational.specs.Rational.{ℚ}
use Rattle.cip_problem.specs.Log.{Node}
use Rattle.cip_domain.specs.Changes.{Change}
use Rattle.cip_tree.specs.Origins.{after}
use Rattle.cip_tree.specs.declared.kept.Stage.{Stage}
use Rattle.cip_tree.specs.declared.kept.Stage.TheVariants.{Open, Taken, Parked, Ended}
use Rattle.cip_tree.specs.Origins.{Origin}
use Rattle.cip_tree.specs.declared.queue.OpenNode.{OpenNode}
use Rattle.cip_tree.specs.Nodes.{Base}
use Rattle.cip_tree.specs.Slots.{Slot, Slots, slot_at, open_slot, origin_is, comes_from, above, slot_changes, changes_at, HasParent, AreSoundSlots, IsParted}
use Rattle.cip_tree.specs.Inside.{node_at, nodes_at, base_of, bases, is_waiting, is_taken, is_aside, has_stage, StandsAs, IsInOrder}
use Rattle.cip_tree.proofs.Keeping.{one_if, count_changed, sum_same, none_or_slot, same_slot, slot_within, eq_test}
use Rattle.cip_tree.proofs.Paths.{KeepsPaths, same_above, same_base, bases_at, IsInWork, in_work, nodes_same, stage_apart, stand_still, changes_still, added_apart}
use Rattle.cip_tree.proofs.Orders.{taken_not_ended, taken_not_open, taken_not_parked, live_is_idle}
use Rattle.cip_tree.proofs.Links.{first_above, up_of_kept}
use Rattle.cip_tree.proofs.Halving.{unlike}

module _ (region : Region) (old new : Slots) (n : ℕ) (notes : List Note) (lp hp : ℕ) (cl ch : Change) (q p : List OpenNode) (ids work : ℕ) (base : Base) (o : IsInOrder old q p ids work) (w : get_or (bases old) n None ≡ Some base) where
  abbrev low_slot : Slot
  low_slot = open_slot ids (Some (record { parent = n; change = cl }))

  abbrev high_slot : Slot
  high_slot = open_slot (ids + 1) (Some (record { parent = n; change = ch }))

  module _ (h : IsParted old new n notes low_slot high_slot lp hp) where
    here : IsInWork old n base
    here = in_work old n base w

    slot_is : h.slot ≡ here.slot
    slot_is = same_slot old n h.slot here.slot h.was here.found

    was_taken : h.slot.stage ≡ Taken
    was_taken = ap (λ (s : Slot). s.stage) slot_is ∙ here.taken

    was_live : h.slot.stage ≢ Ended
    was_live = taken_not_ended h.slot.stage was_taken

    low_apart : lp ≢ n
    low_apart e = none-some h.slot (sym h.low_new ∙ ap (slot_at old) e ∙ h.was)

    high_apart : hp ≢ n
    high_apart e = none-some h.slot (sym h.high_new ∙ ap (slot_at old) e ∙ h.was)

    -- a node that was there and is not the one split is as it was
    stays : (k : ℕ) (s : Slot) → k ≢ n → slot_at old k ≡ Some s → slot_at new k ≡ Some s
    stays k s d e = h.others k d (λ x. none-some s (sym h.low_new ∙ ap (slot_at old) (sym x) ∙ e)) (λ x. none-some s (sym h.high_new ∙ ap (slot_at old) (sym x) ∙ e)) ∙ e

    parent_apart : (s : Slot) (x : Origin) → HasParent old s x → x.parent ≢ n
    parent_apart s x up e = was_live (ap (λ (t : Slot). t.stage) (same_slot old n h.slot up.parent h.was (ap (slot_at old) (sym e) ∙ up.found)) ∙ up.ended)

    -- each slot now: one that was there, perhaps the split one, or one of the halves
    abbrev Before : ℕ → Slot → Type 0
    Before k s = (t : Slot) × (slot_at old k ≡ Some t) × (t.number ≡ s.number) × (t.origin ≡ s.origin) × ((k ≡ n) × (s.below ≡ 2) ⊎ (k ≢ n) × (s ≡ t))

    split_now : (k : ℕ) (s : Slot) → slot_at new k ≡ Some s → Before k s ⊎ ((k ≡ lp) × (low_slot ≡ s) ⊎ (k ≡ hp) × (high_slot ≡ s))
    split_now k s e = elim (cases_eq k n) [
      | inl same ↦
          let t : record h.slot { notes = notes; below = 2; stage = Ended } ≡ s = same_Some _ _ (sym h.now ∙ ap (slot_at new) (sym same) ∙ e) in
          inl (h.slot, ap (slot_at old) same ∙ h.was, ap (λ (x : Slot). x.number) t, ap (λ (x : Slot). x.origin) t, inl (same, sym (ap (λ (x : Slot). x.below) t)))
      | inr apart ↦ elim (cases_eq k lp) [
        | inl same ↦ inr (inl (same, same_Some low_slot s (sym h.low_now ∙ ap (slot_at new) (sym same) ∙ e)))
        | inr d ↦ elim (cases_eq k hp) [
          | inl same ↦ inr (inr (same, same_Some high_slot s (sym h.high_now ∙ ap (slot_at new) (sym same) ∙ e)))
          | inr f ↦ inl (s, sym (h.others k apart d f) ∙ e, refl, refl, inr (apart, refl))
        ]
      ]
    ]

    -- ---- counts

    abbrev mid : Slots
    mid = set (set new hp None) lp None

    low_cleared : slot_at mid lp ≡ None
    low_cleared = get_or-set_same (set new hp None) lp None None (omega (arith, slot_within new lp low_slot h.low_now, length-set new hp None))

    mid_low : slot_at (set new hp None) lp ≡ Some low_slot
    mid_low = get_or-set_other new hp lp None None h.differ ∙ h.low_now

    mid_at : (k : ℕ) → k ≢ n → slot_at mid k ≡ slot_at old k
    mid_at k d = elim (cases_eq k lp) [
      | inl same ↦ ap (slot_at mid) same ∙ low_cleared ∙ sym (ap (slot_at old) same ∙ h.low_new)
      | inr e ↦ get_or-set_other (set new hp None) lp k None None e ∙ elim (cases_eq k hp) [
        | inl same ↦ ap (slot_at (set new hp None)) same ∙ get_or-set_same new hp None None (slot_within new hp high_slot h.high_now) ∙ sym (ap (slot_at old) same ∙ h.high_new)
        | inr f ↦ get_or-set_other new hp k None None f ∙ h.others k d e f
      ]
    ]

    mid_here : slot_at mid n ≡ Some (record h.slot { notes = notes; below = 2; stage = Ended })
    mid_here =
        get_or-set_other (set new hp None) lp n None None (λ e. low_apart (sym e))
        ∙ get_or-set_other new hp n None None (λ e. high_apart (sym e)) ∙ h.now

    -- how many slots pass a test: one changes, and two are new
    part_counts : (test : Option Slot → Bool) → test None ≡ false → count_by test new + one_if (test (slot_at old n)) ≡ count_by test old + one_if (test (slot_at new n)) + one_if (test (Some low_slot)) + one_if (test (Some high_slot))
    part_counts test e =
        let a = sum_by-set (λ x. one_if (test x)) new hp None None (slot_within new hp high_slot h.high_now) in
        let b = sum_by-set (λ x. one_if (test x)) (set new hp None) lp None None (omega (arith, slot_within new lp low_slot h.low_now, length-set new hp None)) in
        let c = count_changed test e old mid n mid_at in
        omega (arith, a, b, c, ap one_if e, ap (λ x. one_if (test x)) h.high_now, ap (λ x. one_if (test x)) mid_low, ap (λ x. one_if (test x)) (mid_here ∙ sym h.now))

    -- how many nodes are at some stages
    part_stages : (test : Stage → Bool) → count_by (has_stage test) new + one_if (test h.slot.stage) ≡ count_by (has_stage test) old + one_if (test Ended) + one_if (test Open) + one_if (test Open)
    part_stages test = omega (arith, part_counts (has_stage test) refl, ap (λ x. one_if (has_stage test x)) h.was, ap (λ x. one_if (has_stage test x)) h.now)

    child_counts : (k : ℕ) → count_by (comes_from k) new ≡ count_by (comes_from k) old + one_if (n == k) + one_if (n == k)
    child_counts k =
        omega (arith, part_counts (comes_from k) refl, ap (λ x. one_if (comes_from k x)) h.was, ap (λ x. one_if (comes_from k x)) h.now)

    -- no node had a new place as parent
    none_from : (k : ℕ) → slot_at old k ≡ None → count_by (comes_from k) old ≡ 0
    none_from k e = sym (sum_same (λ x. one_if (comes_from k x)) None refl old [] (λ j. sym (none_at j)))
      where
        by_origin : (s : Slot) (x : Option Origin) → IfSome x (HasParent old s) → origin_is k x ≡ false
        by_origin s None up = refl
        by_origin s (Some x) up = unlike x.parent k (λ same. none-some up.parent (sym e ∙ ap (slot_at old) (sym same) ∙ up.found))

        none_at : (j : ℕ) → one_if (comes_from k (slot_at old j)) ≡ 0
        none_at j = elim (none_or_slot (slot_at old j)) [
          | inl f ↦ ap (λ x. one_if (comes_from k x)) f
          | inr (s, f) ↦ ap (λ x. one_if (comes_from k x)) f ∙ ap one_if (by_origin s s.origin (o.kept.parents j s f))
        ]

    none_here : count_by (comes_from n) old ≡ 0
    none_here =
        let i = live_is_idle old n h.slot o.kept h.was was_live in
        omega (arith, o.kept.counts n i.slot i.found, i.none_below)

    half_parent : (number : ℕ) (change : Change) → ids ≤ number → HasParent new (open_slot number (Some (record { parent = n; change = change }))) (record { parent = n; change = change })
    half_parent number change l = record {
      parent = record h.slot { notes = notes; below = 2; stage = Ended };
      found = h.now;
      ended = refl;
      lower = omega (arith, o.given n h.slot h.was, l);
    }

    old_parent : (s t : Slot) → t.number ≡ s.number → (x : Option Origin) → IfSome x (HasParent old t) → IfSome x (HasParent new s)
    old_parent s t e None up = tt
    old_parent s t e (Some x) up = record {
      parent = up.parent;
      found = stays x.parent up.parent (parent_apart t x up) up.found;
      ended = up.ended;
      lower = subst (λ m. up.parent.number < m) e up.lower;
    }

    pub part_kept : AreSoundSlots new
    part_kept = record {
      parents = λ k s e. elim (split_now k s e) [
        | inl b ↦ old_parent s b.0 b.2 s.origin (subst (λ x. IfSome x (HasParent old b.0)) b.3 (o.kept.parents k b.0 b.1))
        | inr (inl l) ↦ subst (λ (t : Slot). IfSome t.origin (HasParent new t)) l.1 (half_parent ids cl (omega arith))
        | inr (inr r) ↦ subst (λ (t : Slot). IfSome t.origin (HasParent new t)) r.1 (half_parent (ids + 1) ch (omega arith))
      ];
      counts = λ k s e. elim (split_now k s e) [
        | inl b ↦ elim b.4 [
          | inl m ↦ omega (arith, m.1, child_counts k, ap (λ j. count_by (comes_from j) old) m.0, none_here, ap one_if (ap (λ j. n == j) m.0 ∙ eq_test n))
          | inr m ↦ omega (arith, ap (λ (t : Slot). t.below) m.1, o.kept.counts k b.0 b.1, child_counts k, ap one_if (unlike n k (λ x. m.0 (sym x))))
        ]
        | inr (inl l) ↦ omega (arith, ap (λ (t : Slot). t.below) l.1, child_counts k, ap (λ j. count_by (comes_from j) old) l.0, none_from lp h.low_new, ap one_if (unlike n k (λ x. low_apart (sym (x ∙ l.0)))))
        | inr (inr r) ↦ omega (arith, ap (λ (t : Slot). t.below) r.1, child_counts k, ap (λ j. count_by (comes_from j) old) r.0, none_from hp h.high_new, ap one_if (unlike n k (λ x. high_apart (sym (x ∙ r.0)))))
      ];
      apart = λ j k s t e f g. part_apart j k s t (split_now j s e) (split_now k t f) g;
      used = λ k s e f i. elim (split_now k s e) [
        | inl b ↦ elim b.4 [
          | inl m ↦ omega (arith, m.1)
          | inr m ↦ subst (λ (t : Slot). 0 < t.below) (sym m.1) (o.kept.used k b.0 b.1 (sym (ap (λ (t : Slot). t.stage) m.1) ∙ f) i)
        ]
        | inr (inl l) ↦ absurd (open_ended (ap (λ (t : Slot). t.stage) l.1 ∙ f))
        | inr (inr r) ↦ absurd (open_ended (ap (λ (t : Slot). t.stage) r.1 ∙ f))
      ];
    }
      where
        open_ended : Open ≡ Ended → ⊥
        open_ended e = cc

        part_apart : (j k : ℕ) (s t : Slot) → Before j s ⊎ ((j ≡ lp) × (low_slot ≡ s) ⊎ (j ≡ hp) × (high_slot ≡ s)) → Before k t ⊎ ((k ≡ lp) × (low_slot ≡ t) ⊎ (k ≡ hp) × (high_slot ≡ t)) → s.number ≡ t.number → j ≡ k
        part_apart j k s t (inl a) (inl b) g = o.kept.apart j k a.0 b.0 a.1 b.1 (a.2 ∙ g ∙ sym b.2)
        part_apart j k s t (inl a) (inr (inl l)) g = absurd (omega (arith, o.given j a.0 a.1, a.2, g, ap (λ (x : Slot). x.number) l.1))
        part_apart j k s t (inl a) (inr (inr r)) g = absurd (omega (arith, o.given j a.0 a.1, a.2, g, ap (λ (x : Slot). x.number) r.1))
        part_apart j k s t (inr (inl l)) (inl b) g = absurd (omega (arith, o.given k b.0 b.1, b.2, g, ap (λ (x : Slot). x.number) l.1))
        part_apart j k s t (inr (inr r)) (inl b) g = absurd (omega (arith, o.given k b.0 b.1, b.2, g, ap (λ (x : Slot). x.number) r.1))
        part_apart j k s t (inr (inl l)) (inr (inl m)) g = l.0 ∙ sym m.0
        part_apart j k s t (inr (inr r)) (inr (inr m)) g = r.0 ∙ sym m.0
        part_apart j k s t (inr (inl l)) (inr (inr m)) g = absurd (omega (arith, g, ap (λ (x : Slot). x.number) l.1, ap (λ (x : Slot). x.number) m.1))
        part_apart j k s t (inr (inr r)) (inr (inl m)) g = absurd (omega (arith, g, ap (λ (x : Slot). x.number) r.1, ap (λ (x : Slot). x.number) m.1))

    -- places that are neither of the halves' nor that of the node
    abbrev pub Old : ℕ → Type 0
    Old k = (k ≢ n) × (k ≢ lp) × (k ≢ hp)

    pub part_keeps : KeepsPaths old new Old
    part_keeps = record {
      same = λ k s d e. (s.below, sym (h.others k d.0 d.1 d.2) ∙ e);
      up = λ k s x d e f.
          let p' : HasParent old s x = subst (λ y. IfSome y (HasParent old s)) f (o.kept.parents k s (sym (h.others k d.0 d.1 d.2) ∙ e)) in
          (old_place x.parent p'.parent p'.found (parent_apart s x p'), (p'.parent, stays x.parent p'.parent (parent_apart s x p') p'.found));
    }
      where
        old_place : (k : ℕ) (t : Slot) → slot_at old k ≡ Some t → k ≢ n → Old k
        old_place k t e d = (d, (λ x. none-some t (sym h.low_new ∙ ap (slot_at old) (sym x) ∙ e)), (λ x. none-some t (sym h.high_new ∙ ap (slot_at old) (sym x) ∙ e)))

    up_here : (x : Option Origin) → h.slot.origin ≡ x → IfSome x (λ y. Old y.parent × ((t : Slot) × (slot_at new y.parent ≡ Some t)))
    up_here None e = tt
    up_here (Some x) e =
        let up : HasParent old h.slot x = subst (λ y. IfSome y (HasParent old h.slot)) e (o.kept.parents n h.slot h.was) in
        let d = parent_apart h.slot x up in (
          (d, (λ z. none-some up.parent (sym h.low_new ∙ ap (slot_at old) (sym z) ∙ up.found)), (λ z. none-some up.parent (sym h.high_new ∙ ap (slot_at old) (sym z) ∙ up.found))),
          (up.parent, stays x.parent up.parent d up.found),
        )

    pub above_same : above h.slot.number new h.slot.origin ≡ above h.slot.number old h.slot.origin
    above_same = same_above old new Old part_keeps h.slot.number h.slot.origin (up_here h.slot.origin refl)

    above_here : above h.slot.number new h.slot.origin ≡ base.changes
    above_here =
        above_same
        ∙ ap (λ (s : Slot). above s.number old s.origin) slot_is ∙ here.changes

    -- the changes of a half
    pub half_changes : (number : ℕ) (change : Change) → ids ≤ number → above number new (Some (record { parent = n; change = change })) ≡ change ∷ (noted notes ++ base.changes)
    half_changes number change l =
        first_above new (up_of_kept new part_kept) number (record { parent = n; change = change }) (record { parent = record h.slot { notes = notes; below = 2; stage = Ended }; found = h.now; lower = omega (arith, o.given n h.slot h.was, l) })
        ∙ ap (λ r. change ∷ (noted notes ++ r)) above_here

    module _ (bound : Option ℚ) (q1 q2 : List OpenNode) (p1 : let e : OpenNode = record { bound = bound; id = ids + 1; place = hp } in IsPermutation (e ∷ q) q1) (p2 : let e : OpenNode = record { bound = bound; id = ids; place = lp } in IsPermutation (e ∷ q1) q2) where
      abbrev low_node : OpenNode
      low_node = record { bound = bound; id = ids; place = lp }

      abbrev high_node : OpenNode
      high_node = record { bound = bound; id = ids + 1; place = hp }

      q_apart : All (λ e. e.place ≢ n) q
      q_apart = stage_apart Open old n h.slot q h.was (taken_not_open h.slot.stage was_taken) o.waiting

      p_apart : All (λ e. e.place ≢ n) p
      p_apart = stage_apart Parked old n h.slot p h.was (taken_not_parked h.slot.stage was_taken) o.aside

      q_stands : All (StandsAs Open new) q
      q_stands = stand_still Open old new n q (λ k s d e f. stays k s d e) q_apart o.waiting

      p_stands : All (StandsAs Parked new) p
      p_stands = stand_still Parked old new n p (λ k s d e f. stays k s d e) p_apart o.aside

      new_place : (stage : Stage) (place : ℕ) (nodes : List OpenNode) → slot_at old place ≡ None → All (StandsAs stage old) nodes → All (λ e. e.place ≢ place) nodes
      new_place stage place nodes e hs = λ k d l same. let s = hs k d l in none-some s.slot (sym e ∙ ap (slot_at old) (sym same) ∙ s.found)

      q_old : All (λ e. Old e.place) q
      q_old = λ k d l. (q_apart k d l, new_place Open lp q h.low_new o.waiting k d l, new_place Open hp q h.high_new o.waiting k d l)

      p_old : All (λ e. Old e.place) p
      p_old = λ k d l. (p_apart k d l, new_place Parked lp p h.low_new o.aside k d l, new_place Parked hp p h.high_new o.aside k d l)

      q1_stands : All (StandsAs Open new) q1
      q1_stands = All-permutation (StandsAs Open new) (high_node ∷ q) q1 p1 (All-cons (StandsAs Open new) high_node q (record { slot = high_slot; found = h.high_now; number = refl; stage_is = refl }) q_stands)

      q1_apart : All (λ e. e.place ≢ lp) q1
      q1_apart = All-permutation (λ e. e.place ≢ lp) (high_node ∷ q) q1 p1 (All-cons (λ e. e.place ≢ lp) high_node q (λ e. h.differ (sym e)) (new_place Open lp q h.low_new o.waiting))

      pub part_order : IsInOrder new q2 p (ids + 2) (work - 1)
      part_order = record {
        kept = part_kept;
        given = λ k s e. elim (split_now k s e) [
          | inl b ↦ omega (arith, o.given k b.0 b.1, b.2)
          | inr (inl l) ↦ omega (arith, ap (λ (x : Slot). x.number) l.1)
          | inr (inr r) ↦ omega (arith, ap (λ (x : Slot). x.number) r.1)
        ];
        waiting = All-permutation (StandsAs Open new) (low_node ∷ q1) q2 p2 (All-cons (StandsAs Open new) low_node q1 (record { slot = low_slot; found = h.low_now; number = refl; stage_is = refl }) q1_stands);
        once = added_apart low_node q1 q2 (added_apart high_node q q1 o.once (new_place Open hp q h.high_new o.waiting) p1) q1_apart p2;
        aside = p_stands;
        work = omega (arith, o.work, part_stages is_taken, ap (λ s. one_if (is_taken s)) was_taken);
        waits = omega (arith, o.waits, part_stages is_waiting, ap (λ s. one_if (is_waiting s)) was_taken, length_permutation (high_node ∷ q) q1 p1, length_permutation (low_node ∷ q1) q2 p2);
        rests = omega (arith, o.rests, part_stages is_aside, ap (λ s. one_if (is_aside s)) was_taken);
      }

      pub part_some : 1 ≤ work
      part_some = omega (arith, o.work, part_stages is_taken, ap (λ s. one_if (is_taken s)) was_taken)

      pub part_parked : nodes_at region new p ≡ nodes_at region old p
      part_parked = nodes_same region old new p (changes_still Parked old new Old p part_keeps p_old p_stands)

      pub part_nodes : let low : Node = node_in (after region (cl ∷ (noted notes ++ base.changes))) ids bound in let high : Node = node_in (after region (ch ∷ (noted notes ++ base.changes))) (ids + 1) bound in IsPermutation (low ∷ high ∷ nodes_at region old q) (nodes_at region new q2)
      part_nodes =
          let mapped : IsPermutation (node_at region new low_node ∷ node_at region new high_node ∷ nodes_at region new q) (nodes_at region new q2) = IsPermutation-map (node_at region new) (low_node ∷ high_node ∷ q) q2 (IsPermutation-trans (low_node ∷ high_node ∷ q) (low_node ∷ q1) q2 (IsPermutation-cons low_node (high_node ∷ q) q1 p1) p2) in
          let low_is : changes_at new lp ≡ cl ∷ (noted notes ++ base.changes) = ap (slot_changes new) h.low_now ∙ half_changes ids cl (omega arith) in
          let high_is : changes_at new hp ≡ ch ∷ (noted notes ++ base.changes) = ap (slot_changes new) h.high_now ∙ half_changes (ids + 1) ch (omega arith) in
          let rest : nodes_at region new q ≡ nodes_at region old q = nodes_same region old new q (changes_still Open old new Old q part_keeps q_old q_stands) in
          subst (λ t. IsPermutation ((node_in (after region t) ids bound) ∷ (node_in (after region (ch ∷ (noted notes ++ base.changes))) (ids + 1) bound) ∷ nodes_at region old q) (nodes_at region new q2)) low_is
          (subst (λ t. IsPermutation (node_at region new low_node ∷ (node_in (after region t) (ids + 1) bound) ∷ nodes_at region old q) (nodes_at region new q2)) high_is
          (subst (λ t. IsPermutation (node_at region new low_node ∷ node_at region new high_node ∷ t) (nodes_at region new q2)) rest mapped))

      pub part_gone : get_or (bases new) n None ≡ None
      part_gone = bases_at new n ∙ ap (base_of new) h.now

      pub part_others : (k : ℕ) → k ≢ n → get_or (bases new) k None ≡ get_or (bases old) k None
      part_others k d = bases_at new k ∙ base_there ∙ sym (bases_at old k)
        where
          base_there : base_of new (slot_at new k) ≡ base_of old (slot_at old k)
          base_there = elim (cases_eq k lp) [
            | inl same ↦ ap (base_of new) (ap (slot_at new) same ∙ h.low_now) ∙ sym (ap (base_of old) (ap (slot_at old) same ∙ h.low_new))
            | inr e ↦ elim (cases_eq k hp) [
              | inl same ↦ ap (base_of new) (ap (slot_at new) same ∙ h.high_now) ∙ sym (ap (base_of old) (ap (slot_at old) same ∙ h.high_new))
              | inr f ↦ elim (none_or_slot (slot_at new k)) [
                | inl g ↦ ap (base_of new) g ∙ sym (ap (base_of old) (sym (h.others k d e f) ∙ g))
                | inr (s, g) ↦ same_base old new Old part_keeps k s (d, e, f) g
              ]
            ]
          ]
