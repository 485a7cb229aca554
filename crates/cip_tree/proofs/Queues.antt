-- The heap of open nodes: what its order says, and what stays true of it.
use Rattle.std.proofs.Common.{◌≡◌, ℕ, zero, suc, ◌+◌, ◌-◌, ◌<◌, ◌≤◌, Bool, true, false, cond, not, List, [], ◌∷◌, length, take, get_or, Option, None, Some, IfSome, IfNone, All, Contains, refl, sym, ap, ◌∙◌, subst, arith, Less, Equal, Greater, Ordering, is_lt, true≢false, Result, Ok, Err, is_ok}
use Rattle.std.specs.Prelude.{MatchOption, OnSome, OnOk}
use Rattle.std.specs.declared.collections.BinaryHeap.{BinaryHeap}
use Rattle.std.proofs.lemmas.List.{nil_from_length}
use Rattle.std.specs.Option.{option_cmp}
use Rattle.std.specs.Ordering.{nat_cmp, ordering_then, MatchOrdering}
use Rattle.std.specs.BinaryHeap.{IsHeap, IsUpperBound, PopsGreatest, HeapUnchanged, heap_items, heap_len, heap_capacity}
use Rattle.std.specs.List.Sorted.{IsPermutation}
use Rattle.std.proofs.lemmas.Cmp.{ranked}
use Rattle.std.proofs.lemmas.List.Elements.{All-from_recursion, All-weaker, All-tail, All-more, All-cons, Contains-get_or}
use Rattle.std.proofs.lemmas.List.Sorted.{All-permutation, length_permutation, Contains-permutation}
use Rattle.cip_rational.specs.Rational.{ℚ, compare_rational, ◌≤ℚ◌, ◌<ℚ◌, lt_test}
use Rattle.cip_rational.proofs.Rational.Order.{≤ℚ_trans, ≤ℚ_refl, ≤ℚ_of_lt, ≤ℚ_of_eq, <ℚ_of_le_of_lt, ne_of_lt, lt_of_test, le_of_lt_test, test_of_lt}
use Rattle.cip_rational.proofs.Rational.Compare.{compare_lem}
use Rattle.cip_tree.specs.declared.queue.OpenNode.{OpenNode}
use Rattle.cip_tree.specs.Bounds.{IsBoundAtMost}
use Rattle.cip_tree.specs.Queue.{order, ComesFirst, IsFirst, bound_below, is_below, greater_bound, Waiting, IsQueue, IsLeast}

-- ---- bounds

pub at_most_trans : (a b c : Option ℚ) → IsBoundAtMost a b → IsBoundAtMost b c → IsBoundAtMost a c
at_most_trans None b c h k = tt
at_most_trans (Some a) None c h k = absurd h
at_most_trans (Some a) (Some b) None h k = absurd k
at_most_trans (Some a) (Some b) (Some c) h k = ≤ℚ_trans h k

pub at_most_itself : (a : Option ℚ) → IsBoundAtMost a a
at_most_itself None = tt
at_most_itself (Some a) = ≤ℚ_refl a

greater_cases : (a b : ℚ) (t : Bool) → lt_test a b ≡ t → IsBoundAtMost (Some a) (cond t (Some b) (Some a)) × IsBoundAtMost (Some b) (cond t (Some b) (Some a))
greater_cases a b true e = (≤ℚ_of_lt (lt_of_test e), ≤ℚ_refl b)
greater_cases a b false e = (≤ℚ_refl a, le_of_lt_test e)

pub greater_holds : (a b : Option ℚ) → IsBoundAtMost a (greater_bound a b) × IsBoundAtMost b (greater_bound a b)
greater_holds None b = (tt, at_most_itself b)
greater_holds (Some a) None = (≤ℚ_refl a, tt)
greater_holds (Some a) (Some b) = greater_cases a b (lt_test a b) refl

-- a bound at most another that is below a cost is below it
pub below_through : (cost : ℚ) (a b : Option ℚ) → IsBoundAtMost a b → bound_below cost b ≡ true → bound_below cost a ≡ true
below_through cost None b h k = refl
below_through cost (Some a) None h k = absurd h
below_through cost (Some a) (Some b) h k = test_of_lt (<ℚ_of_le_of_lt h (lt_of_test k))

-- ---- the order

ids_by_cmp : (i j : ℕ) (o : Ordering) → MatchOrdering o (j < i) (j ≡ i) (i < j) → is_lt o ≡ false → i ≤ j
ids_by_cmp i j Less h e = absurd (true≢false e)
ids_by_cmp i j Equal h e = omega (arith, h)
ids_by_cmp i j Greater h e = omega (arith, h)

ids_in_order : (i j : ℕ) → is_lt (nat_cmp j i) ≡ false → i ≤ j
ids_in_order i j e = ids_by_cmp i j (nat_cmp j i) (ranked j i (nat_cmp j i) refl) e

by_compare : (x y : ℚ) (i j : ℕ) (o : Ordering) → MatchOrdering o (y <ℚ x) (y ≡ x) (x <ℚ y) → is_lt (ordering_then o (nat_cmp j i)) ≡ false → (x ≤ℚ y) × (Some x ≡ Some y → i ≤ j)
by_compare x y i j Less h e = absurd (true≢false e)
by_compare x y i j Equal h e = (≤ℚ_of_eq (sym h), λ _. ids_in_order i j e)
by_compare x y i j Greater h e = (≤ℚ_of_lt h, λ s. let same : x ≡ y = cc in absurd (ne_of_lt h same))

in_order : (a b : Option ℚ) (i j : ℕ) → is_lt (ordering_then (option_cmp compare_rational b a) (nat_cmp j i)) ≡ false → IsBoundAtMost a b × (a ≡ b → i ≤ j)
in_order None None i j e = (tt, λ _. ids_in_order i j e)
in_order None (Some y) i j e = (tt, λ s. absurd (cc))
in_order (Some x) None i j e = absurd (true≢false e)
in_order (Some x) (Some y) i j e = by_compare x y i j (compare_rational y x) (compare_lem y x) e

pub comes_first : (x y : OpenNode) → is_lt (order x y) ≡ false → ComesFirst x y
comes_first x y e = let h = in_order x.bound y.bound x.id y.id e in record { bounds = h.0; ids = h.1 }

pub first_of_upper : (x : OpenNode) (others : List OpenNode) → IsUpperBound order x others → IsFirst x others
first_of_upper x others h = All-weaker (λ y. is_lt (order x y) ≡ false) (ComesFirst x) (λ y e. comes_first x y e) others (All-from_recursion (λ y. is_lt (order x y) ≡ false) others h)

-- ---- the queue

pub popped_queue : (r : Option OpenNode) (old new : List OpenNode) (most : Option ℚ) → IfSome r (λ x. IsPermutation old (x ∷ new)) → IfSome r (λ x. PopsGreatest order old x new) → IfNone r (new ≡ old) → IsQueue old most → IsQueue new most
popped_queue None old new most p g u h = subst (λ t. IsQueue t most) (sym u) h
popped_queue (Some x) old new most p g u h = record {
  heap = (g h.heap).0;
  most_is = All-tail (λ node. IsBoundAtMost node.bound most) x new (All-permutation (λ node. IsBoundAtMost node.bound most) old (x ∷ new) p h.most_is);
}

pub pushed_queue : (x : OpenNode) (old new : List OpenNode) (most : Option ℚ) → IsPermutation (x ∷ old) new → (IsHeap order old → IsHeap order new) → IsQueue old most → IsQueue new (greater_bound most x.bound)
pushed_queue x old new most p k h =
    let g = greater_holds most x.bound in
    record {
      heap = k h.heap;
      most_is = All-permutation (λ node. IsBoundAtMost node.bound (greater_bound most x.bound)) (x ∷ old) new p
          (All-cons (λ node. IsBoundAtMost node.bound (greater_bound most x.bound)) x old g.1
          (All-weaker (λ node. IsBoundAtMost node.bound most) (λ node. IsBoundAtMost node.bound (greater_bound most x.bound)) (λ node b. at_most_trans node.bound most (greater_bound most x.bound) b g.0) old h.most_is));
    }

-- the first element of a heap has the least bound
pub first_is_least : (x : OpenNode) (nodes : List OpenNode) → 0 < length nodes → x ≡ get_or nodes 0 x → IsUpperBound order x nodes → IsLeast x.bound nodes
first_is_least x nodes l e h = record {
  node = x;
  among = subst (Contains nodes) (sym e) (Contains-get_or nodes 0 x l);
  is = refl;
  least = All-weaker (ComesFirst x) (λ other. IsBoundAtMost x.bound other.bound) (λ other k. k.bounds) nodes (first_of_upper x nodes h);
}

-- nodes stay below a bound that grows
pub greatest_more : (most : Option ℚ) (bound : Option ℚ) (nodes : List OpenNode) → All (λ node. IsBoundAtMost node.bound most) nodes → All (λ node. IsBoundAtMost node.bound (greater_bound most bound)) nodes
greatest_more most bound nodes h =
    All-weaker (λ node. IsBoundAtMost node.bound most) (λ node. IsBoundAtMost node.bound (greater_bound most bound)) (λ node b. at_most_trans node.bound most (greater_bound most bound) b (greater_holds most bound).0) nodes h

pub greatest_step : (most next : Option ℚ) (nodes : List OpenNode) (at : ℕ) (node : OpenNode) → at < length nodes → node ≡ get_or nodes at node → next ≡ greater_bound most node.bound → All (λ n. IsBoundAtMost n.bound most) (take at nodes) → All (λ n. IsBoundAtMost n.bound next) (take (at + 1) nodes)
greatest_step most next nodes at node l e f h =
    subst (λ t. All (λ n. IsBoundAtMost n.bound t) (take (at + 1) nodes)) (sym f)
    (All-more (λ n. IsBoundAtMost n.bound (greater_bound most node.bound)) nodes at node l (greatest_more most node.bound (take at nodes) h)
    (subst (λ n. IsBoundAtMost n.bound (greater_bound most node.bound)) e (greater_holds most node.bound).1))

-- where the greatest bound is below a cost, each is
pub all_below : (cost : ℚ) (most : Option ℚ) (nodes : List OpenNode) (stays : Bool) → stays ≡ bound_below cost most → All (λ node. IsBoundAtMost node.bound most) nodes → not stays ≡ false → All (λ node. is_below cost node ≡ true) nodes
all_below cost most nodes false e h k = absurd (true≢false k)
all_below cost most nodes true e h k = All-weaker (λ node. IsBoundAtMost node.bound most) (λ node. is_below cost node ≡ true) (λ node b. below_through cost node.bound most b (sym e)) nodes h

-- a fact that holds of an `Ok` holds where there is one
pub when_ok : {T E : Type 0} (r : Result T E) (P : Type 0) → is_ok r ≡ true → OnOk r P → P
when_ok (Ok x) P e h = h
when_ok (Err x) P e h = absurd (true≢false (sym e))

waiting_same : (a b : List OpenNode) (m n : ℕ) → a ≡ b → m ≡ n → let x : Waiting = record { nodes = a; spare = m } in let y : Waiting = record { nodes = b; spare = n } in x ≡ y
waiting_same a b m n e f = cc

-- nothing was popped, so nothing changed
pub left_unchanged : {Z : Type 0} (r : Option OpenNode) (old new : BinaryHeap OpenNode Z) → IfNone r (HeapUnchanged old new) → IfNone r (heap_items new ≡ heap_items old)
left_unchanged None old new h = h.0
left_unchanged (Some x) old new h = tt

-- what is popped comes first; where nothing is, there was nothing
pub popped_answer : {Z : Type 0} (r : Option OpenNode) (old new : BinaryHeap OpenNode Z) → IfSome r (λ x. IsPermutation (heap_items old) (x ∷ heap_items new)) → IfSome r (λ x. IsHeap order (heap_items old) → IsUpperBound order x (heap_items new)) → OnSome r (heap_len new + 1 ≡ heap_len old) → heap_capacity new ≡ heap_capacity old → IfNone r (heap_len old ≡ 0) → IfNone r (HeapUnchanged old new) → IsHeap order (heap_items old) → MatchOption r ((heap_items old ≡ []) × (heap_items new ≡ heap_items old) × (heap_capacity new - heap_len new ≡ heap_capacity old - heap_len old)) (λ x. IsPermutation (heap_items old) (x ∷ heap_items new) × IsFirst x (heap_items new) × (heap_capacity new - heap_len new ≡ heap_capacity old - heap_len old + 1))
popped_answer None old new p u l e n k h = (nil_from_length (heap_items old) (sym old.data.ok.0 ∙ n), k.0, omega (arith, e, k.1))
popped_answer (Some x) old new p u l e n k h = (p, first_of_upper x (heap_items new) (u h), omega (arith, e, l, old.data.ok.1))

-- the same of what contracts see
pub popped_waiting : {Z : Type 0} (r : Option OpenNode) (old new : BinaryHeap OpenNode Z) (before : Waiting) → let was : Waiting = record { nodes = heap_items old; spare = heap_capacity old - heap_len old } in was ≡ before → MatchOption r ((heap_items old ≡ []) × (heap_items new ≡ heap_items old) × (heap_capacity new - heap_len new ≡ heap_capacity old - heap_len old)) (λ x. IsPermutation (heap_items old) (x ∷ heap_items new) × IsFirst x (heap_items new) × (heap_capacity new - heap_len new ≡ heap_capacity old - heap_len old + 1)) → let now : Waiting = record { nodes = heap_items new; spare = heap_capacity new - heap_len new } in MatchOption r ((before.nodes ≡ []) × (now ≡ before)) (λ x. IsPermutation before.nodes (x ∷ now.nodes) × IsFirst x now.nodes × (now.spare ≡ before.spare + 1))
popped_waiting None old new before e h = (sym (ap (λ w. w.nodes) e) ∙ h.0, waiting_same _ _ _ _ h.1 h.2 ∙ e)
popped_waiting (Some x) old new before e h = (
  subst (λ t. IsPermutation t (x ∷ heap_items new)) (ap (λ w. w.nodes) e) h.0,
  h.1,
  h.2 ∙ ap (λ w. w.spare + 1) e,
)

-- a list of one element has one permutation
only_element : {X : Type 0} (x : X) (ys : List X) → length ys ≡ 1 → Contains ys x → ys ≡ x ∷ []
only_element x [] l h = absurd (omega (arith, l))
only_element x (y ∷ []) l (zero, k, e) = ap (λ t. t ∷ []) e
only_element x (y ∷ []) l (suc n, k, e) = absurd (omega (arith, k))
only_element x (y ∷ z ∷ zs) l h = absurd (omega (arith, l))

pub one_permuted : {X : Type 0} (x : X) (ys : List X) → IsPermutation (x ∷ []) ys → ys ≡ x ∷ []
one_permuted x ys h = only_element x ys (length_permutation (x ∷ []) ys h) (Contains-permutation (x ∷ []) ys x h (0, omega arith, refl))
