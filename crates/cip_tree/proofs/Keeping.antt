-- What is kept of nodes stays right where one is let go.
use Rattle.std.proofs.Common.{◌≡◌, ◌≢◌, ◌⊎◌, inl, inr, ℕ, zero, suc, ◌+◌, ◌-◌, ◌<◌, ◌==◌, Bool, true, false, cond, List, [], ◌∷◌, length, get_or, count_by, sum_by, Option, None, Some, IfSome, refl, sym, ap, ◌∙◌, subst, arith, true≢false}
use Rattle.std.proofs.lemmas.Bool.{cases_eq, cases_lt}
use Rattle.std.proofs.lemmas.Bool.Decides.{eqb_tells}
use Rattle.std.proofs.lemmas.Option.{none-some, same_Some}
use Rattle.std.proofs.lemmas.List.{get_or_past}
use Rattle.std.proofs.lemmas.List.Sums.{sum_by-cons, get_or-le-sum_by}
use Rattle.cip_tree.specs.declared.kept.Stage.TheVariants.{Ended}
use Rattle.cip_tree.specs.Origins.{Origin}
use Rattle.cip_tree.specs.Slots.{Slot, Slots, slot_at, origin_is, comes_from, HasParent, IsKeptBut, IsUsed, IsIdle, IsUnused, IsLowered, IsReleased}
use Rattle.cip_tree.proofs.Halving.{unlike}

-- ---- sums over lists that differ at one place

-- a list of elements that count nothing adds up to nothing
sum_of_defaults : {X : Type 0} (f : X → ℕ) (d : X) (xs : List X) → ((k : ℕ) → f (get_or xs k d) ≡ 0) → sum_by f xs ≡ 0
sum_of_defaults f d [] h = refl
sum_of_defaults f d (x ∷ xs) h = omega (arith, sum_by-cons f x xs, h 0, sum_of_defaults f d xs (λ k. h (suc k)))

-- lists whose elements count the same, the default nothing, add up to the same
pub sum_same : {X : Type 0} (f : X → ℕ) (d : X) → f d ≡ 0 → (xs ys : List X) → ((k : ℕ) → f (get_or ys k d) ≡ f (get_or xs k d)) → sum_by f ys ≡ sum_by f xs
sum_same f d e [] ys h = sum_of_defaults f d ys (λ k. h k ∙ e)
sum_same f d e (x ∷ xs) [] h = sym (sum_of_defaults f d (x ∷ xs) (λ k. sym (h k) ∙ e))
sum_same f d e (x ∷ xs) (y ∷ ys) h = omega (arith, sum_by-cons f x xs, sum_by-cons f y ys, h 0, sum_same f d e xs ys (λ k. h (suc k)))

-- where one element changes, so does the sum
pub sum_changed : {X : Type 0} (f : X → ℕ) (d : X) → f d ≡ 0 → (xs ys : List X) (at : ℕ) → ((k : ℕ) → k ≢ at → f (get_or ys k d) ≡ f (get_or xs k d)) → sum_by f ys + f (get_or xs at d) ≡ sum_by f xs + f (get_or ys at d)
sum_changed f d e [] [] at h = refl
sum_changed f d e (x ∷ xs) [] zero h =
    omega (arith, sum_by-cons f x xs, e, sum_same f d e xs [] (λ k. h (suc k) (λ z. omega (arith, z))))
sum_changed f d e (x ∷ xs) [] (suc at) h =
    omega (arith, sum_by-cons f x xs, h 0 (λ z. omega (arith, z)), e, sum_changed f d e xs [] at (λ k n. h (suc k) (λ z. n (omega (arith, z)))))
sum_changed f d e [] (y ∷ ys) zero h =
    omega (arith, sum_by-cons f y ys, e, sum_same f d e [] ys (λ k. h (suc k) (λ z. omega (arith, z))))
sum_changed f d e [] (y ∷ ys) (suc at) h =
    omega (arith, sum_by-cons f y ys, h 0 (λ z. omega (arith, z)), e, sum_changed f d e [] ys at (λ k n. h (suc k) (λ z. n (omega (arith, z)))))
sum_changed f d e (x ∷ xs) (y ∷ ys) zero h =
    omega (arith, sum_by-cons f x xs, sum_by-cons f y ys, sum_same f d e xs ys (λ k. h (suc k) (λ z. omega (arith, z))))
sum_changed f d e (x ∷ xs) (y ∷ ys) (suc at) h =
    omega (arith, sum_by-cons f x xs, sum_by-cons f y ys, h 0 (λ z. omega (arith, z)), sum_changed f d e xs ys at (λ k n. h (suc k) (λ z. n (omega (arith, z)))))

-- whether a test passes, as a number
abbrev pub one_if : Bool → ℕ
one_if b = cond b 1 0

-- how many slots pass a test, where one slot changes
pub count_changed : (test : Option Slot → Bool) → test None ≡ false → (old new : Slots) (at : ℕ) → ((k : ℕ) → k ≢ at → slot_at new k ≡ slot_at old k) → count_by test new + one_if (test (slot_at old at)) ≡ count_by test old + one_if (test (slot_at new at))
count_changed test e old new at h = sum_changed (λ o. one_if (test o)) None (ap one_if e) old new at (λ k n. ap (λ o. one_if (test o)) (h k n))

-- ---- slots

pub slot_within : (slots : Slots) (place : ℕ) (slot : Slot) → slot_at slots place ≡ Some slot → place < length slots
slot_within slots place slot e = elim (cases_lt place (length slots)) [
  | inl l ↦ l
  | inr l ↦ absurd (none-some slot (sym (get_or_past slots place None l) ∙ e))
]

pub none_or_slot : (o : Option Slot) → (o ≡ None) ⊎ ((slot : Slot) × (o ≡ Some slot))
none_or_slot None = inl refl
none_or_slot (Some slot) = inr (slot, refl)

pub same_slot : (slots : Slots) (place : ℕ) (a b : Slot) → slot_at slots place ≡ Some a → slot_at slots place ≡ Some b → a ≡ b
same_slot slots place a b e f = same_Some a b (sym e ∙ f)

pub eq_test : (n : ℕ) → (n == n) ≡ true
eq_test n = elim (eqb_tells n n) [
  | inl k ↦ k.0
  | inr k ↦ absurd (k.1 refl)
]

-- where a node is given by a split, that node has one below it
pub counted : (slots : Slots) (place : ℕ) (slot : Slot) (origin : Origin) → slot_at slots place ≡ Some slot → slot.origin ≡ Some origin → 0 < count_by (comes_from origin.parent) slots
counted slots place slot origin e f =
    let one : comes_from origin.parent (slot_at slots place) ≡ true = ap (comes_from origin.parent) e ∙ ap (origin_is origin.parent) f ∙ eq_test origin.parent in
    omega (arith, get_or-le-sum_by (λ o. one_if (comes_from origin.parent o)) slots place None (slot_within slots place slot e), ap one_if one)

-- no node has an idle one as parent
pub no_child : (idle : Option ℕ) (slots : Slots) (q place : ℕ) (slot : Slot) (origin : Origin) → IsKeptBut idle slots → IsIdle slots q → slot_at slots place ≡ Some slot → slot.origin ≡ Some origin → origin.parent ≢ q
no_child idle slots q place slot origin h i e f s =
    omega (arith, counted slots place slot origin e f, ap (λ k. count_by (comes_from k) slots) s, h.counts q i.slot i.found, i.none_below)

-- where a node is taken away, its parent still has it counted
pub parent_used : (old mid : Slots) (q : ℕ) (slot : Slot) → IsKeptBut (Some q) old → slot_at old q ≡ Some slot → (origin : Origin) → slot.origin ≡ Some origin → ((k : ℕ) → k ≢ q → slot_at mid k ≡ slot_at old k) → IsUsed mid origin.parent
parent_used old mid q slot kept found origin child others =
    let up : HasParent old slot origin = subst (λ o. IfSome o (HasParent old slot)) child (kept.parents q slot found) in
    record {
      slot = up.parent;
      found = others origin.parent (λ e. omega (arith, up.lower, ap (λ (s : Slot). s.number) (same_slot old q slot up.parent found (ap (slot_at old) (sym e) ∙ up.found)))) ∙ up.found;
      some_below = omega (arith, counted old q slot origin found child, kept.counts origin.parent up.parent up.found);
    }

-- ---- a root is let go

module _ (old new : Slots) (q : ℕ) (slot : Slot) (kept : IsKeptBut (Some q) old) (found : slot_at old q ≡ Some slot) (empty : slot.below ≡ 0) where
  idle_is : IsIdle old q
  idle_is = record { slot = slot; found = found; none_below = empty }

  kept_apart : (k : ℕ) → Some q ≢ Some k → q ≢ k
  kept_apart k d e = d (ap Some e)

  module _ (root : slot.origin ≡ None) (gone : slot_at new q ≡ None) (others : (k : ℕ) → k ≢ q → slot_at new k ≡ slot_at old k) where
    not_gone : (k : ℕ) (s : Slot) → slot_at new k ≡ Some s → k ≢ q
    not_gone k s e d = none-some s (sym gone ∙ ap (slot_at new) (sym d) ∙ e)

    was_there : (k : ℕ) (s : Slot) → slot_at new k ≡ Some s → slot_at old k ≡ Some s
    was_there k s e = sym (others k (not_gone k s e)) ∙ e

    root_counts : (k : ℕ) → count_by (comes_from k) new ≡ count_by (comes_from k) old
    root_counts k =
        omega (arith, count_changed (comes_from k) refl old new q others, ap (λ o. one_if (comes_from k o)) found, ap (λ o. one_if (origin_is k o)) root, ap (λ o. one_if (comes_from k o)) gone)

    parent_still : (s : Slot) (k : ℕ) → slot_at old k ≡ Some s → (o : Option Origin) → s.origin ≡ o → IfSome o (HasParent old s) → IfSome o (HasParent new s)
    parent_still s k e None f h = tt
    parent_still s k e (Some o) f h = record {
      parent = h.parent;
      found = others o.parent (no_child (Some q) old q k s o kept idle_is e f) ∙ h.found;
      ended = h.ended;
      lower = h.lower;
    }

    pub root_kept : IsKeptBut None new
    root_kept = record {
      parents = λ k s e. parent_still s k (was_there k s e) s.origin refl (kept.parents k s (was_there k s e));
      counts = λ k s e. kept.counts k s (was_there k s e) ∙ sym (root_counts k);
      apart = λ j k s t e f. kept.apart j k s t (was_there j s e) (was_there k t f);
      used = λ k s e f i. kept.used k s (was_there k s e) f (λ z. not_gone k s e (sym (same_Some q k z)));
    }

    pub root_released : IsReleased old new q
    root_released = record {
      gone = gone;
      live = λ k s d e f. others k d ∙ e;
      left = λ k s e. (s.below, was_there k s e);
    }

  -- ---- a child is let go

  module _ (mid : Slots) (origin : Origin) (child : slot.origin ≡ Some origin) (gone : slot_at mid q ≡ None) (others : (k : ℕ) → k ≢ q → slot_at mid k ≡ slot_at old k) (none_left : Bool) (lowered : IsLowered mid new origin.parent none_left) where
    parent_is : HasParent old slot origin
    parent_is = subst (λ o. IfSome o (HasParent old slot)) child (kept.parents q slot found)

    up_apart : origin.parent ≢ q
    up_apart e = omega (arith, parent_is.lower, ap (λ s. s.number) (same_slot old q slot parent_is.parent found (ap (slot_at old) (sym e) ∙ parent_is.found)))

    -- the slot that was lowered is the parent's
    lowered_is : lowered.slot ≡ parent_is.parent
    lowered_is = same_Some _ _ (sym lowered.was ∙ others origin.parent up_apart ∙ parent_is.found)

    parent_now : slot_at new origin.parent ≡ Some (record parent_is.parent { below = parent_is.parent.below - 1 })
    parent_now = lowered.now ∙ ap (λ (s : Slot). Some (let r : Slot = record s { below = s.below - 1 } in r)) lowered_is

    gone_now : slot_at new q ≡ None
    gone_now = lowered.others q (λ e. up_apart (sym e)) ∙ gone

    others_now : (k : ℕ) → k ≢ q → k ≢ origin.parent → slot_at new k ≡ slot_at old k
    others_now k d e = lowered.others k e ∙ others k d

    -- a slot of the new ones was there, but for its count
    child_was : (k : ℕ) (s : Slot) → slot_at new k ≡ Some s → (b : ℕ) × (slot_at old k ≡ Some (record s { below = b })) × (k ≢ q) × ((k ≡ origin.parent) × (s.below + 1 ≡ b) ⊎ (k ≢ origin.parent) × (s.below ≡ b))
    child_was k s e = elim (cases_eq k origin.parent) [
      | inl same ↦
          let t : record parent_is.parent { below = parent_is.parent.below - 1 } ≡ s = same_Some _ _ (sym parent_now ∙ ap (slot_at new) (sym same) ∙ e) in
          let r : parent_is.parent ≡ record s { below = parent_is.parent.below } = ap (λ (x : Slot). (let r : Slot = record x { below = parent_is.parent.below } in r)) t in (
            parent_is.parent.below,
            ap (slot_at old) same ∙ parent_is.found ∙ ap Some r,
            (λ d. up_apart (sym same ∙ d)),
            inl (same, omega (arith, ap (λ x. x.below) t, counted old q slot origin found child, kept.counts origin.parent parent_is.parent parent_is.found)),
          )
      | inr apart ↦ elim (cases_eq k q) [
        | inl d ↦ absurd (none-some s (sym gone_now ∙ ap (slot_at new) (sym d) ∙ e))
        | inr d ↦ (s.below, sym (others_now k d apart) ∙ e, d, inr (apart, refl))
      ]
    ]

    mid_counts : (k : ℕ) → count_by (comes_from k) mid + one_if (origin.parent == k) ≡ count_by (comes_from k) old
    mid_counts k =
        omega (arith, count_changed (comes_from k) refl old mid q others, ap (λ o. one_if (comes_from k o)) found, ap (λ o. one_if (origin_is k o)) child, ap (λ o. one_if (comes_from k o)) gone)

    new_counts : (k : ℕ) → count_by (comes_from k) new ≡ count_by (comes_from k) mid
    new_counts k =
        omega (arith, count_changed (comes_from k) refl mid new origin.parent lowered.others, ap (λ o. one_if (comes_from k o)) lowered.was, ap (λ o. one_if (comes_from k o)) lowered.now)

    child_counts : (k : ℕ) → count_by (comes_from k) new + one_if (origin.parent == k) ≡ count_by (comes_from k) old
    child_counts k = omega (arith, mid_counts k, new_counts k)

    parent_after : (s : Slot) (b k : ℕ) → slot_at old k ≡ Some (record s { below = b }) → (o : Option Origin) → s.origin ≡ o → IfSome o (HasParent old (record s { below = b })) → IfSome o (HasParent new s)
    parent_after s b k e None f h = tt
    parent_after s b k e (Some o) f h = elim (cases_eq o.parent origin.parent) [
      | inl same ↦
          let t : h.parent ≡ parent_is.parent = same_Some _ _ (sym h.found ∙ ap (slot_at old) same ∙ parent_is.found) in
          record {
            parent = record parent_is.parent { below = parent_is.parent.below - 1 };
            found = ap (slot_at new) same ∙ parent_now;
            ended = sym (ap (λ x. x.stage) t) ∙ h.ended;
            lower = subst (λ x. x.number < s.number) t h.lower;
          }
      | inr apart ↦ record {
        parent = h.parent;
        found = others_now o.parent (no_child (Some q) old q k (record s { below = b }) o kept idle_is e f) apart ∙ h.found;
        ended = h.ended;
        lower = h.lower;
      }
    ]

    abbrev next_of : Bool → Option ℕ
    next_of none = cond none (Some origin.parent) None

    child_counted : (k : ℕ) (s : Slot) → slot_at new k ≡ Some s → s.below ≡ count_by (comes_from k) new
    child_counted k s e = let w = child_was k s e in
        let c = kept.counts k (record s { below = w.0 }) w.1 in
        elim w.3 [
          | inl p ↦ omega (arith, c, p.1, child_counts k, ap one_if (ap (λ x. x == k) (sym p.0) ∙ eq_test k))
          | inr p ↦ omega (arith, c, p.1, child_counts k, ap one_if (unlike origin.parent k (λ z. p.0 (sym z))))
        ]

    -- the parent has none left where its count says so
    left_some : (b : Bool) → b ≡ (lowered.slot.below - 1 == 0) → next_of b ≢ Some origin.parent → 0 < lowered.slot.below - 1
    left_some true e n = absurd (n refl)
    left_some false e n = elim (eqb_tells (lowered.slot.below - 1) 0) [
      | inl k ↦ absurd (true≢false (sym k.0 ∙ sym e))
      | inr k ↦ elim (cases_lt 0 (lowered.slot.below - 1)) [
        | inl l ↦ l
        | inr l ↦ absurd (k.1 (omega (arith, l)))
      ]
    ]

    child_used : (k : ℕ) (s : Slot) → slot_at new k ≡ Some s → s.stage ≡ Ended → next_of none_left ≢ Some k → 0 < s.below
    child_used k s e f n = let w = child_was k s e in
        elim w.3 [
          | inl p ↦
              let t : record lowered.slot { below = lowered.slot.below - 1 } ≡ s = same_Some _ _ (sym lowered.now ∙ ap (slot_at new) (sym p.0) ∙ e) in
              omega (arith, ap (λ x. x.below) t, left_some none_left lowered.left (λ z. n (z ∙ ap Some (sym p.0))))
          | inr p ↦ omega (arith, p.1, kept.used k (record s { below = w.0 }) w.1 f (λ z. w.2 (sym (same_Some q k z))))
        ]

    pub child_kept : IsKeptBut (next_of none_left) new
    child_kept = record {
      parents = λ k s e. let w = child_was k s e in parent_after s w.0 k w.1 s.origin refl (kept.parents k (record s { below = w.0 }) w.1);
      counts = child_counted;
      apart = λ j k s t e f. let v = child_was j s e in let w = child_was k t f in kept.apart j k (record s { below = v.0 }) (record t { below = w.0 }) v.1 w.1;
      used = child_used;
    }

    pub child_released : IsReleased old new q
    child_released = record {
      gone = gone_now;
      live = λ k s d e f. elim (cases_eq k origin.parent) [
        | inl same ↦ absurd (f (ap (λ x. x.stage) (same_slot old k s parent_is.parent e (ap (slot_at old) same ∙ parent_is.found)) ∙ parent_is.ended))
        | inr apart ↦ others_now k d apart ∙ e
      ];
      left = λ k s e. let w = child_was k s e in (w.0, w.1);
    }

    unused_by : (b : Bool) → b ≡ (lowered.slot.below - 1 == 0) → IfSome (next_of b) (IsUnused new)
    unused_by false e = tt
    unused_by true e = record {
      idle = record {
        slot = record lowered.slot { below = lowered.slot.below - 1 };
        found = lowered.now;
        none_below = elim (eqb_tells (lowered.slot.below - 1) 0) [
          | inl k ↦ k.1
          | inr k ↦ absurd (true≢false (e ∙ k.0))
        ];
      };
      ended = ap (λ x. x.stage) lowered_is ∙ parent_is.ended;
    }

    pub child_next : IfSome (next_of none_left) (IsUnused new)
    child_next = unused_by none_left lowered.left

-- ---- one after another

-- where an unused node is let go after others
pub released_more : (first now new : Slots) (place at : ℕ) → IsReleased first now place → IsUnused now at → IsReleased now new at → IsReleased first new place
released_more first now new place at h u k = record {
  gone = elim (none_or_slot (slot_at new place)) [
    | inl e ↦ e
    | inr (s, e) ↦ absurd (none-some (record s { below = (k.left place s e).0 }) (sym h.gone ∙ (k.left place s e).1))
  ];
  live = λ other slot d e f.
      let then_ : slot_at now other ≡ Some slot = h.live other slot d e f in
      k.live other slot (λ same. f (ap (λ (s : Slot). s.stage) (same_slot now at slot u.idle.slot (ap (slot_at now) (sym same) ∙ then_) u.idle.found) ∙ u.ended)) then_ f;
  left = λ other slot e. let l = k.left other slot e in h.left other (record slot { below = l.0 }) l.1;
}
