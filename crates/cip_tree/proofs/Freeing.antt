-- Open nodes are let go, and the others stand as they did.
use Rattle.cip_domain.specs.Changes.{Region}
use Rattle.std.proofs.Common.{◌≡◌, ◌≢◌, inl, inr, ℕ, suc, ◌+◌, ◌<◌, ◌≤◌, ◌==◌, Bool, true, false, not, cond, List, [], ◌∷◌, ◌++◌, take, get_or, length, count_by, filter, Option, None, Some, IfSome, All, refl, sym, ap, ◌∙◌, subst, arith, length-append}
use Rattle.std.specs.List.Sorted.{IsPermutation}
use Rattle.std.proofs.lemmas.Option.{none-some}
use Rattle.std.proofs.lemmas.List.Elements.{All-nil, All-cons, All-append, All-filter, filter_more}
use Rattle.std.proofs.lemmas.List.Filters.{sum_by-filter_both, length-filter_both}
use Rattle.std.proofs.lemmas.List.Sums.{sum_by_more_le, get_or-le-sum_by}
use Rattle.std.proofs.lemmas.List.Sorted.{All-permutation, length_permutation, sum_by-IsPermutation}
use Rattle.cip_rational.specs.Rational.{ℚ}
use Rattle.cip_tree.specs.declared.kept.Stage.{Stage}
use Rattle.cip_tree.specs.declared.kept.Stage.TheVariants.{Open, Taken, Parked, Ended}
use Rattle.cip_tree.specs.declared.queue.OpenNode.{OpenNode}
use Rattle.cip_tree.specs.Queue.{is_below}
use Rattle.cip_tree.specs.Slots.{Slot, Slots, slot_at, above, HasParent, IsIdle, AreSoundSlots, IsReleased}
use Rattle.cip_tree.specs.Moves.{is_cheaper}
use Rattle.cip_tree.specs.Inside.{nodes_at, base_if, base_of, bases, is_waiting, is_taken, is_aside, has_stage, StandsAs, is_at, IsInOrder}
use Rattle.cip_tree.specs.Freed.{dearer, AreElsewhere, AreReleased}
use Rattle.cip_tree.proofs.Keeping.{one_if, none_or_slot}
use Rattle.cip_tree.proofs.Paths.{KeepsPaths, same_base, bases_at, nodes_same, stage_apart, changes_still, apart_by_count}
use Rattle.cip_tree.proofs.Orders.{open_not_ended, live_is_idle, released_count}
use Rattle.cip_tree.proofs.Closing.{closed_nodes, fewer}

-- ---- parts of lists

All-left : {X : Type 0} (P : X → Type 0) (xs ys : List X) → All P (xs ++ ys) → All P xs
All-left P [] ys h = All-nil P
All-left P (x ∷ xs) ys h =
    All-cons P x xs (h 0 x (omega (arith, length-append xs ys))) (All-left P xs ys (λ k d l. h (suc k) d (omega (arith, l))))

All-right : {X : Type 0} (P : X → Type 0) (xs ys : List X) → All P (xs ++ ys) → All P ys
All-right P [] ys h = h
All-right P (x ∷ xs) ys h = All-right P xs ys (λ k d l. h (suc k) d (omega (arith, l)))

-- ---- one after another

-- nothing was let go yet
pub none_released : (slots : Slots) → AreReleased slots slots []
none_released slots = record {
  live = λ k s e f d. f;
  left = λ k s e. (All-nil _, (s.below, e));
  waiting = omega arith;
  others = λ test a b. refl;
}

pub one_released : (old new : Slots) (node : OpenNode) → IsReleased old new node.place → AreSoundSlots new → StandsAs Open old node → AreReleased old new (node ∷ [])
one_released old new node r kept stands = record {
  live = λ place slot d e f. r.live place slot (λ same. d 0 node (omega arith) (sym same)) e f;
  left = λ place slot e. (
    All-cons (λ n. n.place ≢ place) node [] (λ same. none-some slot (sym r.gone ∙ ap (slot_at new) same ∙ e)) (All-nil (λ n. n.place ≢ place)),
    r.left place slot e,
  );
  waiting = omega (arith, released_count old new node.place r kept is_waiting refl, ap (λ x. one_if (has_stage is_waiting x)) stands.found, ap (λ x. one_if (is_waiting x)) stands.stage_is);
  others = λ test a b. omega (arith, released_count old new node.place r kept test b, ap (λ x. one_if (has_stage test x)) stands.found, ap (λ x. one_if (test x)) stands.stage_is, ap one_if a);
}

pub then_released : (old mid new : Slots) (first more : List OpenNode) → AreReleased old mid first → AreReleased mid new more → AreReleased old new (first ++ more)
then_released old mid new first more h k = record {
  live = λ place slot d e f.
      k.live place slot (All-right (λ n. n.place ≢ place) first more d) (h.live place slot (All-left (λ n. n.place ≢ place) first more d) e f) f;
  left = λ place slot e.
      let w = k.left place slot e in
      let v = h.left place (record slot { below = w.1.0 }) w.1.1 in
      (All-append (λ n. n.place ≢ place) first more v.0 w.0, v.1);
  waiting = omega (arith, h.waiting, k.waiting, length-append first more);
  others = λ test a b. k.others test a b ∙ h.others test a b;
}

-- ---- the nodes of a list

-- the next node of a list, in which no place stands twice, stands where it did
pub next_stands : (old now : Slots) (cost : ℚ) (nodes : List OpenNode) (at : ℕ) (node : OpenNode) → at < length nodes → node ≡ get_or nodes at node → All (StandsAs Open old) nodes → ((place : ℕ) → count_by (is_at place) nodes ≤ 1) → AreReleased old now (dearer cost (take at nodes)) → StandsAs Open now node
next_stands old now cost nodes at node l e stand once r =
    let s : StandsAs Open old node = subst (StandsAs Open old) (sym e) (stand at node l) in
    let none : count_by (is_at node.place) (take at nodes) ≡ 0 =
    omega (arith, once node.place, sum_by_more_le (λ x. one_if (is_at node.place x)) nodes at node l, ap (λ n. one_if (is_at node.place n)) e, ap one_if (itself node.place)) in
    record {
      slot = s.slot;
      found = r.live node.place s.slot (All-filter (λ n. not (is_below cost n)) (λ n. n.place ≢ node.place) (take at nodes) (apart_by_count node.place (take at nodes) none)) s.found (open_not_ended s.slot.stage s.stage_is);
      number = s.number;
      stage_is = s.stage_is;
    }
  where
    itself : (n : ℕ) → (n == n) ≡ true
    itself n = grind arith

pub next_released : (old now new : Slots) (cost : ℚ) (nodes : List OpenNode) (at : ℕ) (node : OpenNode) → at < length nodes → node ≡ get_or nodes at node → AreReleased old now (dearer cost (take at nodes)) → AreReleased now new (dearer cost (node ∷ [])) → AreReleased old new (dearer cost (take (at + 1) nodes))
next_released old now new cost nodes at node l e h k =
    let test : OpenNode → Bool = λ n. not (is_below cost n) in
    let last : cond (test (get_or nodes at node)) (get_or nodes at node ∷ []) [] ≡ dearer cost (node ∷ []) = ap (λ n. cond (test n) (n ∷ []) []) (sym e) in
    subst (AreReleased old new) (sym (filter_more test nodes at node l ∙ ap (λ t. filter test (take at nodes) ++ t) last)) (then_released old now new _ _ h k)

-- the node alone, by what its test said
pub dearer_one : (cost : ℚ) (node : OpenNode) (old new : Slots) → is_below cost node ≡ false → AreReleased old new (node ∷ []) → AreReleased old new (dearer cost (node ∷ []))
dearer_one cost node old new e h = subst (λ b. AreReleased old new (cond (not b) (node ∷ []) [])) (sym e) h

pub dearer_none : (cost : ℚ) (node : OpenNode) (slots : Slots) → is_below cost node ≡ true
    → AreReleased slots slots (dearer cost (node ∷ []))
dearer_none cost node slots e = subst (λ b. AreReleased slots slots (cond (not b) (node ∷ []) [])) (sym e)
    (none_released slots)

pub open_is_idle : (slots : Slots) (node : OpenNode) → AreSoundSlots slots → StandsAs Open slots node → IsIdle slots node.place
open_is_idle slots node kept s = live_is_idle slots node.place s.slot kept s.found (open_not_ended s.slot.stage s.stage_is)

-- ---- what stands then

-- each place
abbrev pub Anywhere : ℕ → Type 0
Anywhere k = Unit {0}

pub freed_keeps : (old new : Slots) (gone : List OpenNode) → AreReleased old new gone → AreSoundSlots new → KeepsPaths old new Anywhere
freed_keeps old new gone r kept = record {
  same = λ k s d e. (r.left k s e).1;
  up = λ k s o d e f. let p : HasParent new s o = subst (λ x. IfSome x (HasParent new s)) f (kept.parents k s e) in (tt, (p.parent, p.found));
}

module _ (old new : Slots) (gone : List OpenNode) (r : AreReleased old new gone) (kept : AreSoundSlots new) (open_ : All (StandsAs Open old) gone) where
  -- a node at another stage stands still
  stands_still : (k : ℕ) (t : Slot) → slot_at old k ≡ Some t → t.stage ≢ Open → t.stage ≢ Ended → slot_at new k ≡ Some t
  stands_still k t e d f = r.live k t (stage_apart Open old k t gone e d open_) e f

  base_gone : (k : ℕ) → slot_at new k ≡ None → (b : Option Slot) → slot_at old k ≡ b → base_of old b ≡ None
  base_gone k e None f = refl
  base_gone k e (Some t) f = by_stage t.stage refl
    where
      by_stage : (stage : Stage) → t.stage ≡ stage → base_if stage (record { number = t.number; changes = above t.number old t.origin }) ≡ None
      by_stage Open s = refl
      by_stage Parked s = refl
      by_stage Ended s = refl
      by_stage Taken s = absurd (none-some t (sym e ∙ stands_still k t f (λ x. let g : Taken ≡ Open = sym s ∙ x in cc) (λ x. let g : Taken ≡ Ended = sym s ∙ x in cc)))

  pub freed_bases : (k : ℕ) → get_or (bases new) k None ≡ get_or (bases old) k None
  freed_bases k = bases_at new k ∙ elim (none_or_slot (slot_at new k)) [
    | inl e ↦ ap (base_of new) e ∙ sym (base_gone k e (slot_at old k) refl)
    | inr (s, e) ↦ same_base old new Anywhere (freed_keeps old new gone r kept) k s tt e
  ] ∙ sym (bases_at old k)

module _ (region : Region) (old new : Slots) (cost : ℚ) (q more p : List OpenNode) (ids work : ℕ) (o : IsInOrder old q p ids work) (r : AreReleased old new (dearer cost q)) (kept : AreSoundSlots new) (perm : IsPermutation (filter (is_below cost) q) more) where
  gone_open : All (StandsAs Open old) (dearer cost q)
  gone_open = All-filter (λ n. not (is_below cost n)) (StandsAs Open old) q o.waiting

  -- the nodes that stay are at none of the places that are let go
  rest_apart : All (λ e. AreElsewhere e.place (dearer cost q)) (filter (is_below cost) q)
  rest_apart = λ k d l.
      let e = get_or (filter (is_below cost) q) k d in
      let f : OpenNode → ℕ = λ x. one_if (is_at e.place x) in
      apart_by_count e.place (dearer cost q) (omega (arith, o.once e.place, sum_by-filter_both (is_below cost) (λ n. not (is_below cost n)) (λ x. refl) f q, get_or-le-sum_by f (filter (is_below cost) q) k d l, ap one_if (itself e.place)))
    where
      itself : (n : ℕ) → (n == n) ≡ true
      itself n = grind arith

  rest_stands : All (StandsAs Open new) (filter (is_below cost) q)
  rest_stands = λ k d l.
      let s = All-filter (is_below cost) (StandsAs Open old) q o.waiting k d l in
      record { slot = s.slot; found = r.live _ s.slot (rest_apart k d l) s.found (open_not_ended s.slot.stage s.stage_is); number = s.number; stage_is = s.stage_is }

  aside_stands : All (StandsAs Parked new) p
  aside_stands = λ k d l.
      let s = o.aside k d l in
      record {
        slot = s.slot;
        found = stands_still old new (dearer cost q) r kept gone_open _ s.slot s.found (λ x. let g : Parked ≡ Open = sym s.stage_is ∙ x in cc) (λ x. let g : Parked ≡ Ended = sym s.stage_is ∙ x in cc);
        number = s.number;
        stage_is = s.stage_is;
      }

  more_stands : All (StandsAs Open new) more
  more_stands = All-permutation (StandsAs Open new) (filter (is_below cost) q) more perm rest_stands

  pub freed_order : IsInOrder new more p ids work
  freed_order = record {
    kept = kept;
    given = λ k s e. let w = (r.left k s e).1 in o.given k (record s { below = w.0 }) w.1;
    waiting = more_stands;
    once = λ place. omega (arith, o.once place, fewer place cost q, sum_by-IsPermutation (λ e. one_if (is_at place e)) (filter (is_below cost) q) more perm);
    aside = aside_stands;
    work = o.work ∙ sym (r.others is_taken refl refl);
    waits = omega (arith, o.waits, r.waiting, length-filter_both (is_below cost) (λ n. not (is_below cost n)) (λ x. refl) q, length_permutation (filter (is_below cost) q) more perm);
    rests = o.rests ∙ sym (r.others is_aside refl refl);
  }

  pub freed_nodes : IsPermutation (filter (is_cheaper cost) (nodes_at region old q)) (nodes_at region new more)
  freed_nodes = subst (IsPermutation (filter (is_cheaper cost) (nodes_at region old q)))
      (sym (nodes_same region old new more (changes_still Open old new Anywhere more (freed_keeps old new (dearer cost q) r kept) (λ k d l. tt) more_stands)))
      (closed_nodes region old cost q more perm)

  pub freed_parked : nodes_at region new p ≡ nodes_at region old p
  freed_parked = nodes_same region old new p (changes_still Parked old new Anywhere p (freed_keeps old new (dearer cost q) r kept) (λ k d l. tt) aside_stands)

  pub freed_places : (k : ℕ) → get_or (bases new) k None ≡ get_or (bases old) k None
  freed_places k = freed_bases old new (dearer cost q) r kept gone_open k
