-- Trees stay in order from call to call.
use Rattle.cip_tree.specs.declared.notes.Note.{Note}
use Rattle.cip_tree.specs.Notes.{noted}
use Rattle.cip_domain.specs.Changes.{Region}
use Rattle.cip_tree.specs.Nodes.{node_in}
use Rattle.std.proofs.Common.{◌≡◌, ◌≢◌, inl, inr, ℕ, ◌+◌, ◌-◌, ◌<◌, ◌≤◌, Bool, false, List, [], ◌∷◌, ◌++◌, map, length-append, count_by, Option, None, Some, IfSome, All, refl, sym, ap, ◌∙◌, subst, arith, get_or}
use Rattle.std.specs.List.Sorted.{IsPermutation}
use Rattle.std.proofs.lemmas.Option.{none-some}
use Rattle.std.proofs.lemmas.List.Elements.{All-cons, All-tail, All-head, All-push, All-map}
use Rattle.std.proofs.lemmas.List.{map-append, length-map, get_or-map}
use Rattle.std.proofs.lemmas.List.Sums.{get_or-le-sum_by}
use Rattle.std.specs.Prelude.{MatchOption, Contains, ◌==◌}
use Rattle.std.proofs.lemmas.List.Sorted.{All-permutation, IsPermutation-map, length_permutation}
use Rattle.cip_rational.specs.Rational.{ℚ}
use Rattle.cip_problem.specs.Log.{Node, Entry}
use Rattle.cip_tree.specs.Origins.{Origin}
use Rattle.cip_tree.specs.Bounds.{IsBoundAtMost}
use Rattle.cip_tree.specs.Queue.{IsFirst, IsLeast}
use Rattle.cip_tree.specs.Moves.{IsBefore, IsLeastBound}
use Rattle.cip_tree.specs.Origins.{after}
use Rattle.cip_tree.specs.declared.kept.Stage.{Stage}
use Rattle.cip_tree.specs.declared.kept.Stage.TheVariants.{Open, Taken, Parked, Ended}
use Rattle.cip_tree.specs.declared.queue.OpenNode.{OpenNode}
use Rattle.cip_tree.specs.Nodes.{Base, Nodes}
use Rattle.cip_tree.specs.Slots.{Slot, Slots, slot_at, above, changes_at, slot_changes, origin_is, comes_from, HasParent, IsIdle, AreSoundSlots, IsRestaged, IsReleased}
use Rattle.cip_tree.specs.Inside.{node_at, nodes_at, base_if, base_of, bases, is_waiting, is_taken, is_aside, has_stage, StandsAs, IsInOrder}
use Rattle.cip_tree.proofs.Keeping.{one_if, sum_changed, sum_same, slot_within, none_or_slot, same_slot}
use Rattle.cip_tree.proofs.Paths.{KeepsPaths, same_base, bases_at, IsInWork, in_work, nodes_same, stage_apart, stand_still, changes_still, first_apart, added_apart}
use Rattle.cip_tree.proofs.Restaged.{kept_new, given_new, keeps, above_here, changes_here, base_others, stage_count}

pub taken_not_ended : (s : Stage) → s ≡ Taken → s ≢ Ended
taken_not_ended s e f = let g : Taken ≡ Ended = sym e ∙ f in cc

pub taken_not_open : (s : Stage) → s ≡ Taken → s ≢ Open
taken_not_open s e f = let g : Taken ≡ Open = sym e ∙ f in cc

pub taken_not_parked : (s : Stage) → s ≡ Taken → s ≢ Parked
taken_not_parked s e f = let g : Taken ≡ Parked = sym e ∙ f in cc

pub open_not_ended : (s : Stage) → s ≡ Open → s ≢ Ended
open_not_ended s e f = let g : Open ≡ Ended = sym e ∙ f in cc

pub open_not_parked : (s : Stage) → s ≡ Open → s ≢ Parked
open_not_parked s e f = let g : Open ≡ Parked = sym e ∙ f in cc

pub open_is_not : Open ≢ Ended
open_is_not e = cc

taken_is_not : Taken ≢ Ended
taken_is_not e = cc

pub parked_is_not : Parked ≢ Ended
parked_is_not e = cc

-- ---- a node in work is open again

module _ (region : Region) (old new : Slots) (n : ℕ) (had notes : List Note) (q more p : List OpenNode) (ids work id : ℕ) (bound : Option ℚ) (base : Base) (o : IsInOrder old q p ids work) (w : get_or (bases old) n None ≡ Some base) (number : base.number ≡ id) where
  slot_here : IsInWork old n base
  slot_here = in_work old n base w

  module _ (h : IsRestaged old new n had notes Open) (perm : let e : OpenNode = record { bound = bound; id = id; place = n } in IsPermutation (e ∷ q) more) where
    back_taken : h.slot.stage ≡ Taken
    back_taken = ap (λ (s : Slot). s.stage) (same_slot old n h.slot slot_here.slot h.was slot_here.found) ∙ slot_here.taken

    back_number : h.slot.number ≡ id
    back_number = ap (λ (s : Slot). s.number) (same_slot old n h.slot slot_here.slot h.was slot_here.found) ∙ slot_here.number ∙ number

    q_apart : All (λ e. e.place ≢ n) q
    q_apart = stage_apart Open old n h.slot q h.was (taken_not_open h.slot.stage back_taken) o.waiting

    p_apart : All (λ e. e.place ≢ n) p
    p_apart = stage_apart Parked old n h.slot p h.was (taken_not_parked h.slot.stage back_taken) o.aside

    q_stands : All (StandsAs Open new) q
    q_stands = stand_still Open old new n q (λ k s d e f. h.others k d ∙ e) q_apart o.waiting

    p_stands : All (StandsAs Parked new) p
    p_stands = stand_still Parked old new n p (λ k s d e f. h.others k d ∙ e) p_apart o.aside

    live : h.slot.stage ≢ Ended
    live = taken_not_ended h.slot.stage back_taken

    keeps_here : KeepsPaths old new (λ k. k ≢ n)
    keeps_here = keeps old new n had notes Open h o.kept live open_is_not

    back_count : (test : Stage → Bool) → count_by (has_stage test) new + one_if (test h.slot.stage) ≡ count_by (has_stage test) old + one_if (test Open)
    back_count test = stage_count old new n had notes Open h o.kept live open_is_not test

    pub back_order : IsInOrder new more p ids (work - 1)
    back_order = record {
      kept = kept_new old new n had notes Open h o.kept live open_is_not;
      given = given_new old new n had notes Open h o.kept live open_is_not ids o.given;
      waiting = All-permutation (StandsAs Open new) ((let e : OpenNode = record { bound = bound; id = id; place = n } in e) ∷ q) more perm (All-cons (StandsAs Open new) _ q (record { slot = record h.slot { notes = notes; stage = Open }; found = h.now; number = back_number; stage_is = refl }) q_stands);
      once = added_apart (record { bound = bound; id = id; place = n }) q more o.once q_apart perm;
      aside = p_stands;
      work = omega (arith, o.work, back_count is_taken, ap (λ s. one_if (is_taken s)) back_taken);
      waits = omega (arith, o.waits, back_count is_waiting, ap (λ s. one_if (is_waiting s)) back_taken, length_permutation _ _ perm);
      rests = omega (arith, o.rests, back_count is_aside, ap (λ s. one_if (is_aside s)) back_taken);
    }

    pub back_some : 1 ≤ work
    back_some = omega (arith, o.work, back_count is_taken, ap (λ s. one_if (is_taken s)) back_taken)

    pub back_parked : nodes_at region new p ≡ nodes_at region old p
    back_parked = nodes_same region old new p (changes_still Parked old new (λ k. k ≢ n) p keeps_here p_apart p_stands)

    back_changes : changes_at new n ≡ noted notes ++ base.changes
    back_changes =
        changes_here old new n had notes Open h o.kept live open_is_not
        ∙ ap (λ (s : Slot). noted notes ++ above s.number old s.origin) (same_slot old n h.slot slot_here.slot h.was slot_here.found)
        ∙ ap (λ r. noted notes ++ r) slot_here.changes

    pub back_nodes : let node : Node = node_in (after region (noted notes ++ base.changes)) id bound in IsPermutation (node ∷ nodes_at region old q) (nodes_at region new more)
    back_nodes =
        let e : OpenNode = record { bound = bound; id = id; place = n } in
        let mapped : IsPermutation (node_at region new e ∷ nodes_at region new q) (nodes_at region new more) = IsPermutation-map (node_at region new) (e ∷ q) more perm in
        subst (λ t. IsPermutation ((node_in (after region t) id bound) ∷ nodes_at region old q) (nodes_at region new more)) back_changes
        (subst (λ t. IsPermutation (node_at region new e ∷ t) (nodes_at region new more)) (nodes_same region old new q (changes_still Open old new (λ k. k ≢ n) q keeps_here q_apart q_stands)) mapped)

    pub back_gone : get_or (bases new) n None ≡ None
    back_gone = bases_at new n ∙ ap (base_of new) h.now

    pub back_others : (k : ℕ) → k ≢ n → get_or (bases new) k None ≡ get_or (bases old) k None
    back_others k d = bases_at new k ∙ base_others old new n had notes Open h o.kept live open_is_not k d ∙ sym (bases_at old k)

  -- ---- a node in work is put aside

  module _ (h : IsRestaged old new n had notes Parked) where
    aside_taken : h.slot.stage ≡ Taken
    aside_taken = ap (λ (s : Slot). s.stage) (same_slot old n h.slot slot_here.slot h.was slot_here.found) ∙ slot_here.taken

    aside_number : h.slot.number ≡ id
    aside_number = ap (λ (s : Slot). s.number) (same_slot old n h.slot slot_here.slot h.was slot_here.found) ∙ slot_here.number ∙ number

    aq_apart : All (λ e. e.place ≢ n) q
    aq_apart = stage_apart Open old n h.slot q h.was (taken_not_open h.slot.stage aside_taken) o.waiting

    ap_apart : All (λ e. e.place ≢ n) p
    ap_apart = stage_apart Parked old n h.slot p h.was (taken_not_parked h.slot.stage aside_taken) o.aside

    aq_stands : All (StandsAs Open new) q
    aq_stands = stand_still Open old new n q (λ k s d e f. h.others k d ∙ e) aq_apart o.waiting

    ap_stands : All (StandsAs Parked new) p
    ap_stands = stand_still Parked old new n p (λ k s d e f. h.others k d ∙ e) ap_apart o.aside

    aside_live : h.slot.stage ≢ Ended
    aside_live = taken_not_ended h.slot.stage aside_taken

    aside_keeps : KeepsPaths old new (λ k. k ≢ n)
    aside_keeps = keeps old new n had notes Parked h o.kept aside_live parked_is_not

    abbrev node_here : OpenNode
    node_here = record { bound = bound; id = id; place = n }

    aside_count : (test : Stage → Bool) → count_by (has_stage test) new + one_if (test h.slot.stage) ≡ count_by (has_stage test) old + one_if (test Parked)
    aside_count test = stage_count old new n had notes Parked h o.kept aside_live parked_is_not test

    pub aside_order : IsInOrder new q (p ++ node_here ∷ []) ids (work - 1)
    aside_order = record {
      kept = kept_new old new n had notes Parked h o.kept aside_live parked_is_not;
      given = given_new old new n had notes Parked h o.kept aside_live parked_is_not ids o.given;
      waiting = aq_stands;
      once = o.once;
      aside = All-push (StandsAs Parked new) p node_here ap_stands (record { slot = record h.slot { notes = notes; stage = Parked }; found = h.now; number = aside_number; stage_is = refl });
      work = omega (arith, o.work, aside_count is_taken, ap (λ s. one_if (is_taken s)) aside_taken);
      waits = omega (arith, o.waits, aside_count is_waiting, ap (λ s. one_if (is_waiting s)) aside_taken);
      rests = omega (arith, o.rests, aside_count is_aside, ap (λ s. one_if (is_aside s)) aside_taken, length-append p (node_here ∷ []));
    }

    pub aside_some : 1 ≤ work
    aside_some = omega (arith, o.work, aside_count is_taken, ap (λ s. one_if (is_taken s)) aside_taken)

    pub aside_open : nodes_at region new q ≡ nodes_at region old q
    aside_open = nodes_same region old new q (changes_still Open old new (λ k. k ≢ n) q aside_keeps aq_apart aq_stands)

    aside_changes : changes_at new n ≡ noted notes ++ base.changes
    aside_changes =
        changes_here old new n had notes Parked h o.kept aside_live parked_is_not
        ∙ ap (λ (s : Slot). noted notes ++ above s.number old s.origin) (same_slot old n h.slot slot_here.slot h.was slot_here.found)
        ∙ ap (λ r. noted notes ++ r) slot_here.changes

    pub aside_parked : let node : Node = node_in (after region (noted notes ++ base.changes)) id bound in nodes_at region new (p ++ node_here ∷ []) ≡ nodes_at region old p ++ node ∷ []
    aside_parked =
        map-append (node_at region new) p (node_here ∷ [])
        ∙ ap (λ t. t ++ node_at region new node_here ∷ []) (nodes_same region old new p (changes_still Parked old new (λ k. k ≢ n) p aside_keeps ap_apart ap_stands))
        ∙ ap (λ t. nodes_at region old p ++ (node_in (after region t) id bound) ∷ []) aside_changes

    pub aside_gone : get_or (bases new) n None ≡ None
    aside_gone = bases_at new n ∙ ap (base_of new) h.now

    pub aside_others : (k : ℕ) → k ≢ n → get_or (bases new) k None ≡ get_or (bases old) k None
    aside_others k d = bases_at new k ∙ base_others old new n had notes Parked h o.kept aside_live parked_is_not k d ∙ sym (bases_at old k)

-- ---- a node in work is let go

origin_apart : (old : Slots) (n : ℕ) (slot : Slot) → AreSoundSlots old → slot_at old n ≡ Some slot → slot.stage ≢ Ended → (s : Slot) (o : Option Origin) → IfSome o (HasParent old s) → origin_is n o ≡ false
origin_apart old n slot kept e live s None p = refl
origin_apart old n slot kept e live s (Some o) p = unlike o.parent n (λ same. live (ap (λ (t : Slot). t.stage) (same_slot old n slot p.parent e (ap (slot_at old) (sym same) ∙ p.found)) ∙ p.ended))
  where
    unlike : (a b : ℕ) → a ≢ b → (a == b) ≡ false
    unlike a b d = grind arith

-- a node that has not ended has none below it
pub live_is_idle : (old : Slots) (n : ℕ) (slot : Slot) → AreSoundSlots old → slot_at old n ≡ Some slot → slot.stage ≢ Ended → IsIdle old n
live_is_idle old n slot kept e live =
    let none : (k : ℕ) → one_if (comes_from n (slot_at old k)) ≡ 0 = λ k. elim (none_or_slot (slot_at old k)) [
      | inl f ↦ ap (λ o. one_if (comes_from n o)) f
      | inr (s, f) ↦ ap (λ o. one_if (comes_from n o)) f ∙ ap one_if (origin_apart old n slot kept e live s s.origin (kept.parents k s f))
    ] in
    record {
      slot = slot;
      found = e;
      none_below = kept.counts n slot e ∙ sym (sum_same (λ o. one_if (comes_from n o)) None refl old [] (λ k. sym (none k)));
    }

module _ (old new : Slots) (n : ℕ) (r : IsReleased old new n) (kept : AreSoundSlots new) where
  abbrev Anywhere : ℕ → Type 0
  Anywhere k = Unit {0}

  pub released_keeps : KeepsPaths old new Anywhere
  released_keeps = record {
    same = λ k s d e. r.left k s e;
    up = λ k s o d e f. let p : HasParent new s o = subst (λ x. IfSome x (HasParent new s)) f (kept.parents k s e) in (tt, (p.parent, p.found));
  }

  gone_by_stage : (k : ℕ) (t : Slot) → k ≢ n → slot_at old k ≡ Some t → slot_at new k ≡ None → (stage : Stage) → t.stage ≡ stage → stage ≡ Ended
  gone_by_stage k t d e f Open s = absurd (none-some t (sym f ∙ r.live k t d e (λ x. let g : Open ≡ Ended = sym s ∙ x in cc)))
  gone_by_stage k t d e f Taken s = absurd (none-some t (sym f ∙ r.live k t d e (λ x. let g : Taken ≡ Ended = sym s ∙ x in cc)))
  gone_by_stage k t d e f Parked s = absurd (none-some t (sym f ∙ r.live k t d e (λ x. let g : Parked ≡ Ended = sym s ∙ x in cc)))
  gone_by_stage k t d e f Ended s = refl

  gone_ended : (k : ℕ) → k ≢ n → slot_at new k ≡ None → (t : Slot) → slot_at old k ≡ Some t → t.stage ≡ Ended
  gone_ended k d e t f = gone_by_stage k t d f e t.stage refl

  gone_base : (k : ℕ) → k ≢ n → slot_at new k ≡ None → (b : Option Slot) → slot_at old k ≡ b → base_of old b ≡ None
  gone_base k d e None f = refl
  gone_base k d e (Some t) f =
      ap (λ x. base_if x (record { number = t.number; changes = above t.number old t.origin })) (gone_ended k d e t f)

  gone_stage : (test : Stage → Bool) → test Ended ≡ false → (k : ℕ) → k ≢ n → slot_at new k ≡ None → (b : Option Slot) → slot_at old k ≡ b → has_stage test b ≡ false
  gone_stage test z k d e None f = refl
  gone_stage test z k d e (Some t) f = ap test (gone_ended k d e t f) ∙ z

  pub released_others : (k : ℕ) → k ≢ n → get_or (bases new) k None ≡ get_or (bases old) k None
  released_others k d = bases_at new k ∙ elim (none_or_slot (slot_at new k)) [
    | inl e ↦ ap (base_of new) e ∙ sym (gone_base k d e (slot_at old k) refl)
    | inr (s, e) ↦ same_base old new Anywhere released_keeps k s tt e
  ] ∙ sym (bases_at old k)

  pub released_gone : get_or (bases new) n None ≡ None
  released_gone = bases_at new n ∙ ap (base_of new) r.gone

  stage_same : (test : Stage → Bool) → test Ended ≡ false → (k : ℕ) → k ≢ n → one_if (has_stage test (slot_at new k)) ≡ one_if (has_stage test (slot_at old k))
  stage_same test z k d = elim (none_or_slot (slot_at new k)) [
    | inl e ↦ ap (λ o. one_if (has_stage test o)) e ∙ sym (ap one_if (gone_stage test z k d e (slot_at old k) refl))
    | inr (s, e) ↦ ap (λ o. one_if (has_stage test o)) e ∙ sym (ap (λ o. one_if (has_stage test o)) (r.left k s e).1)
  ]

  -- how many nodes are at some stages
  pub released_count : (test : Stage → Bool) → test Ended ≡ false → count_by (has_stage test) new + one_if (has_stage test (slot_at old n)) ≡ count_by (has_stage test) old
  released_count test z =
      omega (arith, sum_changed (λ o. one_if (has_stage test o)) None refl old new n (stage_same test z), ap (λ o. one_if (has_stage test o)) r.gone)

  pub released_given : (ids : ℕ) → ((k : ℕ) (s : Slot) → slot_at old k ≡ Some s → s.number < ids) → (k : ℕ) (s : Slot) → slot_at new k ≡ Some s → s.number < ids
  released_given ids g k s e = let w = r.left k s e in g k (record s { below = w.0 }) w.1

  pub released_nodes : (region : Region) (stage : Stage) (nodes : List OpenNode) → All (StandsAs stage new) nodes → nodes_at region new nodes ≡ nodes_at region old nodes
  released_nodes region stage nodes h = nodes_same region old new nodes (changes_still stage old new Anywhere nodes released_keeps (λ k d l. tt) h)

module _ (region : Region) (old new : Slots) (n : ℕ) (q p : List OpenNode) (ids work : ℕ) (base : Base) (o : IsInOrder old q p ids work) (w : get_or (bases old) n None ≡ Some base) where
  pub taken_is_idle : IsIdle old n
  taken_is_idle = let s = in_work old n base w in live_is_idle old n s.slot o.kept s.found (taken_not_ended s.slot.stage s.taken)

  pub taken_some : 1 ≤ work
  taken_some =
      let s = in_work old n base w in
      omega (arith, o.work, get_or-le-sum_by (λ x. one_if (has_stage is_taken x)) old n None (slot_within old n s.slot s.found), ap (λ x. one_if (has_stage is_taken x)) s.found, ap (λ x. one_if (is_taken x)) s.taken)

  pub taken_kept : (slot : Slot) × (slot_at old n ≡ Some slot)
  taken_kept = let s = in_work old n base w in (s.slot, s.found)

  module _ (r : IsReleased old new n) (kept : AreSoundSlots new) where
    closed_waiting : All (StandsAs Open new) q
    closed_waiting =
        let s = in_work old n base w in
        stand_still Open old new n q (λ k t d e f. r.live k t d e (open_not_ended t.stage f)) (stage_apart Open old n s.slot q s.found (taken_not_open s.slot.stage s.taken) o.waiting) o.waiting

    closed_aside : All (StandsAs Parked new) p
    closed_aside =
        let s = in_work old n base w in
        stand_still Parked old new n p (λ k t d e f. r.live k t d e (λ x. let g : Parked ≡ Ended = sym f ∙ x in cc)) (stage_apart Parked old n s.slot p s.found (taken_not_parked s.slot.stage s.taken) o.aside) o.aside

    pub closed_order : IsInOrder new q p ids (work - 1)
    closed_order =
        let s = in_work old n base w in
        record {
          kept = kept;
          given = released_given old new n r kept ids o.given;
          waiting = closed_waiting;
          once = o.once;
          aside = closed_aside;
          work = omega (arith, o.work, released_count old new n r kept is_taken refl, ap (λ x. one_if (has_stage is_taken x)) s.found, ap (λ x. one_if (is_taken x)) s.taken);
          waits = omega (arith, o.waits, released_count old new n r kept is_waiting refl, ap (λ x. one_if (has_stage is_waiting x)) s.found, ap (λ x. one_if (is_waiting x)) s.taken);
          rests = omega (arith, o.rests, released_count old new n r kept is_aside refl, ap (λ x. one_if (has_stage is_aside x)) s.found, ap (λ x. one_if (is_aside x)) s.taken);
        }

    pub closed_open : nodes_at region new q ≡ nodes_at region old q
    closed_open = released_nodes old new n r kept region Open q closed_waiting

    pub closed_parked : nodes_at region new p ≡ nodes_at region old p
    closed_parked = released_nodes old new n r kept region Parked p closed_aside

-- ---- the first node is taken

module _ (region : Region) (old new : Slots) (e : OpenNode) (had none : List Note) (q rest p : List OpenNode) (ids work : ℕ) (o : IsInOrder old q p ids work) (perm : IsPermutation q (e ∷ rest)) where
  pub first_stands : StandsAs Open old e
  first_stands = All-head (StandsAs Open old) e rest (All-permutation (StandsAs Open old) q (e ∷ rest) perm o.waiting)

  pub first_kept : (slot : Slot) × (slot_at old e.place ≡ Some slot)
  first_kept = (first_stands.slot, first_stands.found)

  module _ (h : IsRestaged old new e.place had none Taken) (empty : none ≡ []) where
    first_slot : first_stands.slot ≡ h.slot
    first_slot = same_slot old e.place first_stands.slot h.slot first_stands.found h.was

    first_open : h.slot.stage ≡ Open
    first_open = sym (ap (λ (s : Slot). s.stage) first_slot) ∙ first_stands.stage_is

    first_live : h.slot.stage ≢ Ended
    first_live = open_not_ended h.slot.stage first_open

    rest_apart : All (λ x. x.place ≢ e.place) rest
    rest_apart = (first_apart e q rest o.once perm).1

    aside_apart : All (λ x. x.place ≢ e.place) p
    aside_apart = stage_apart Parked old e.place h.slot p h.was (open_not_parked h.slot.stage first_open) o.aside

    first_keeps : KeepsPaths old new (λ k. k ≢ e.place)
    first_keeps = keeps old new e.place had none Taken h o.kept first_live taken_is_not

    rest_stands : All (StandsAs Open new) rest
    rest_stands = stand_still Open old new e.place rest (λ k s d f g. h.others k d ∙ f) rest_apart (All-tail (StandsAs Open old) e rest (All-permutation (StandsAs Open old) q (e ∷ rest) perm o.waiting))

    aside_stands : All (StandsAs Parked new) p
    aside_stands = stand_still Parked old new e.place p (λ k s d f g. h.others k d ∙ f) aside_apart o.aside

    first_count : (test : Stage → Bool) → count_by (has_stage test) new + one_if (test h.slot.stage) ≡ count_by (has_stage test) old + one_if (test Taken)
    first_count test = stage_count old new e.place had none Taken h o.kept first_live taken_is_not test

    pub first_order : IsInOrder new rest p ids (work + 1)
    first_order = record {
      kept = kept_new old new e.place had none Taken h o.kept first_live taken_is_not;
      given = given_new old new e.place had none Taken h o.kept first_live taken_is_not ids o.given;
      waiting = rest_stands;
      once = (first_apart e q rest o.once perm).0;
      aside = aside_stands;
      work = omega (arith, o.work, first_count is_taken, ap (λ s. one_if (is_taken s)) first_open);
      waits = omega (arith, o.waits, first_count is_waiting, ap (λ s. one_if (is_waiting s)) first_open, length_permutation q (e ∷ rest) perm);
      rests = omega (arith, o.rests, first_count is_aside, ap (λ s. one_if (is_aside s)) first_open);
    }

    pub first_parked : nodes_at region new p ≡ nodes_at region old p
    first_parked = nodes_same region old new p (changes_still Parked old new (λ k. k ≢ e.place) p first_keeps aside_apart aside_stands)

    pub first_base : Base
    first_base = record { number = h.slot.number; changes = above h.slot.number new h.slot.origin }

    pub first_found : get_or (bases new) e.place None ≡ Some (record { number = h.slot.number; changes = above h.slot.number new h.slot.origin })
    first_found = bases_at new e.place ∙ ap (base_of new) h.now

    pub first_number : h.slot.number ≡ e.id
    first_number = sym (ap (λ (s : Slot). s.number) first_slot) ∙ first_stands.number

    pub first_fresh : get_or (bases old) e.place None ≡ None
    first_fresh = bases_at old e.place ∙ ap (base_of old) h.was ∙ ap (λ s. base_if s (record { number = h.slot.number; changes = above h.slot.number old h.slot.origin })) first_open

    pub first_others : (k : ℕ) → k ≢ e.place → get_or (bases new) k None ≡ get_or (bases old) k None
    first_others k d = bases_at new k ∙ base_others old new e.place had none Taken h o.kept first_live taken_is_not k d ∙ sym (bases_at old k)

    first_changes : changes_at old e.place ≡ noted had ++ above h.slot.number new h.slot.origin
    first_changes =
        ap (slot_changes old) h.was
        ∙ ap (λ t. noted t ++ above h.slot.number old h.slot.origin) (sym h.had_is)
        ∙ ap (λ t. noted had ++ t) (sym (above_here old new e.place had none Taken h o.kept first_live taken_is_not h.slot.number))

    pub first_nodes : let node : Node = node_in (after region (noted had ++ above h.slot.number new h.slot.origin)) e.id e.bound in IsPermutation (nodes_at region old q) (node ∷ nodes_at region new rest)
    first_nodes =
        let mapped : IsPermutation (nodes_at region old q) (node_at region old e ∷ nodes_at region old rest) = IsPermutation-map (node_at region old) q (e ∷ rest) perm in
        subst (λ t. IsPermutation (nodes_at region old q) ((node_in (after region t) e.id e.bound) ∷ nodes_at region new rest)) first_changes
        (subst (λ t. IsPermutation (nodes_at region old q) (node_at region old e ∷ t)) (sym (nodes_same region old new rest (changes_still Open old new (λ k. k ≢ e.place) rest first_keeps rest_apart rest_stands))) mapped)

    pub first_before : IsFirst e rest → (b : Region) → let node : Node = node_in b e.id e.bound in All (IsBefore node) (nodes_at region new rest)
    first_before first b = All-map (IsBefore (node_in b e.id e.bound)) (node_at region new) rest (λ k d l. let f = first k d l in record { bounds = f.bounds; numbers = f.ids })

-- ---- the least bound

contains_map : {X Y : Type 0} (f : X → Y) (xs : List X) (x : X) → Contains xs x → Contains (map f xs) (f x)
contains_map f xs x h = (h.0, omega (arith, h.1, length-map xs f), get_or-map f xs h.0 x (f x) h.1 ∙ ap f h.2)

pub least_shown : (region : Region) (slots : Slots) (nodes : List OpenNode) (r : Option (Option ℚ)) → MatchOption r (nodes ≡ []) (λ bound. IsLeast bound nodes) → MatchOption r (nodes_at region slots nodes ≡ []) (λ bound. IsLeastBound bound (nodes_at region slots nodes))
least_shown region slots nodes None h = ap (nodes_at region slots) h
least_shown region slots nodes (Some bound) h = record {
  node = node_at region slots h.node;
  among = contains_map (node_at region slots) nodes h.node h.among;
  is = h.is;
  least = All-map (λ other. IsBoundAtMost bound other.bound) (node_at region slots) nodes h.least;
}

-- trees of equal parts are equal
pub nodes_equal : (root : Node) (integral : List Bool) (a b p r : List Node) (t : List (Option Base)) (ids : ℕ) (k l : List Entry) (w : Region) → a ≡ b → p ≡ r → k ≡ l → let x : Nodes = record { root = root; integral = integral; open_ = a; parked = p; taken = t; ids = ids; log = k; work = w } in let y : Nodes = record { root = root; integral = integral; open_ = b; parked = r; taken = t; ids = ids; log = l; work = w } in x ≡ y
nodes_equal root integral a b p r t ids k l w e f g = cc

pub order_same : (old new : Slots) (q more p aside : List OpenNode) (ids work : ℕ) → new ≡ old → more ≡ q → aside ≡ p
    → IsInOrder old q p ids work → IsInOrder new more aside ids work
order_same old new q more p aside ids work e f g o =
    subst (λ s. IsInOrder s more aside ids work) (sym e)
    (subst (λ l. IsInOrder old l aside ids work) (sym f) (subst (λ l. IsInOrder old q l ids work) (sym g) o))
