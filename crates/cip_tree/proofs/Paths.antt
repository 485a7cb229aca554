-- The changes of nodes stay where other slots change.
use Rattle.cip_tree.specs.Notes.{noted}
use Rattle.cip_domain.specs.Changes.{Region}
use Rattle.cip_tree.specs.Nodes.{node_in}
use Rattle.std.proofs.Common.{◌≡◌, ◌≢◌, inl, inr, ℕ, zero, suc, ◌+◌, ◌≤◌, ◌==◌, Bool, true, false, List, [], ◌∷◌, ◌++◌, map, get_or, count_by, Option, None, Some, IfSome, All, refl, sym, ap, ◌∙◌, arith}
use Rattle.std.specs.List.Sorted.{IsPermutation}
use Rattle.std.proofs.lemmas.Bool.{cases_eq}
use Rattle.std.proofs.lemmas.Option.{none-some, same_Some}
use Rattle.std.proofs.lemmas.List.Elements.{All-tail, All-head}
use Rattle.std.proofs.lemmas.List.Sums.{sum_by-cons, get_or-le-sum_by}
use Rattle.std.proofs.lemmas.List.Sorted.{sum_by-IsPermutation}
use Rattle.cip_tree.specs.Origins.{after}
use Rattle.cip_tree.specs.declared.kept.Stage.{Stage}
use Rattle.cip_tree.specs.declared.kept.Stage.TheVariants.{Open, Taken, Parked, Ended}
use Rattle.cip_tree.specs.Origins.{Origin}
use Rattle.cip_tree.specs.declared.queue.OpenNode.{OpenNode}
use Rattle.cip_tree.specs.Nodes.{Base}
use Rattle.cip_tree.specs.Slots.{Slot, Slots, slot_at, changes_of, above, slot_changes, changes_at}
use Rattle.cip_tree.specs.Inside.{node_at, nodes_at, base_if, base_of, bases, StandsAs, is_at}
use Rattle.cip_tree.proofs.Keeping.{one_if, none_or_slot, same_slot}

-- the slots at these places were there before, but for their counts, and so are their parents
pub record KeepsPaths (old new : Slots) (D : ℕ → Type 0) : Type 0 where
  pub same : (k : ℕ) (s : Slot) → D k → slot_at new k ≡ Some s → (b : ℕ) × (slot_at old k ≡ Some (record s { below = b }))
  pub up : (k : ℕ) (s : Slot) (o : Origin) → D k → slot_at new k ≡ Some s → s.origin ≡ Some o → D o.parent × ((t : Slot) × (slot_at new o.parent ≡ Some t))

module _ (old new : Slots) (D : ℕ → Type 0) (h : KeepsPaths old new D) where
  abbrev IsUp : Origin → Type 0
  IsUp o = D o.parent × ((t : Slot) × (slot_at new o.parent ≡ Some t))

  next_up : (k : ℕ) (s : Slot) → D k → slot_at new k ≡ Some s → (o : Option Origin) → s.origin ≡ o → IfSome o IsUp
  next_up k s d e None f = tt
  next_up k s d e (Some o) f = h.up k s o d e f

  pub same_above : (f : ℕ) (o : Option Origin) → IfSome o IsUp → above f new o ≡ above f old o
  same_above zero o u = refl
  same_above (suc f) None u = refl
  same_above (suc f) (Some o) u =
      let w = h.same o.parent u.1.0 u.0 u.1.1 in
      let there : changes_of (slot_at new o.parent) (above f new) ≡ noted u.1.0.notes ++ above f new u.1.0.origin = ap (λ t. changes_of t (above f new)) u.1.1 in
      let before : changes_of (slot_at old o.parent) (above f old) ≡ noted u.1.0.notes ++ above f old u.1.0.origin = ap (λ t. changes_of t (above f old)) w.1 in
      ap (λ r. o.change ∷ r) (there ∙ ap (λ r. noted u.1.0.notes ++ r) (same_above f u.1.0.origin (next_up o.parent u.1.0 u.0 u.1.1 u.1.0.origin refl)) ∙ sym before)

  -- what is above a node
  pub same_up : (k : ℕ) (s : Slot) → D k → slot_at new k ≡ Some s → above s.number new s.origin ≡ above s.number old s.origin
  same_up k s d e = same_above s.number s.origin (next_up k s d e s.origin refl)

  pub same_changes : (k : ℕ) (s : Slot) → D k → slot_at new k ≡ Some s → changes_at new k ≡ changes_at old k
  same_changes k s d e =
      let w = h.same k s d e in
      ap (slot_changes new) e
      ∙ ap (λ r. noted s.notes ++ r) (same_above s.number s.origin (next_up k s d e s.origin refl))
      ∙ sym (ap (slot_changes old) w.1)

  pub same_base : (k : ℕ) (s : Slot) → D k → slot_at new k ≡ Some s → base_of new (slot_at new k) ≡ base_of old (slot_at old k)
  same_base k s d e =
      let w = h.same k s d e in
      ap (base_of new) e
      ∙ ap (λ r. base_if s.stage (record { number = s.number; changes = r })) (same_above s.number s.origin (next_up k s d e s.origin refl))
      ∙ sym (ap (base_of old) w.1)

-- ---- bases by place

base_in : (slots all : Slots) (place : ℕ) → get_or (map (base_of all) slots) place None ≡ base_of all (slot_at slots place)
base_in [] all place = refl
base_in (s ∷ ss) all zero = refl
base_in (s ∷ ss) all (suc place) = base_in ss all place

pub bases_at : (slots : Slots) (place : ℕ) → get_or (bases slots) place None ≡ base_of slots (slot_at slots place)
bases_at slots place = base_in slots slots place

-- what is kept for a node in work is in its slot
pub record IsInWork (slots : Slots) (place : ℕ) (base : Base) : Type 0 where
  pub slot : Slot
  pub found : slot_at slots place ≡ Some slot
  pub taken : slot.stage ≡ Taken
  pub number : slot.number ≡ base.number
  pub changes : above slot.number slots slot.origin ≡ base.changes

by_stage : (slots : Slots) (place : ℕ) (base : Base) (slot : Slot) → slot_at slots place ≡ Some slot → (stage : Stage) → slot.stage ≡ stage → base_if stage (record { number = slot.number; changes = above slot.number slots slot.origin }) ≡ Some base → IsInWork slots place base
by_stage slots place base slot e Open f h = absurd (none-some base h)
by_stage slots place base slot e Parked f h = absurd (none-some base h)
by_stage slots place base slot e Ended f h = absurd (none-some base h)
by_stage slots place base slot e Taken f h =
    let same = same_Some (record { number = slot.number; changes = above slot.number slots slot.origin }) base h in
    record { slot = slot; found = e; taken = f; number = ap (λ (b : Base). b.number) same; changes = ap (λ (b : Base). b.changes) same }

pub in_work : (slots : Slots) (place : ℕ) (base : Base) → get_or (bases slots) place None ≡ Some base → IsInWork slots place base
in_work slots place base h = elim (none_or_slot (slot_at slots place)) [
  | inl e ↦ absurd (none-some base (sym (ap (base_of slots) e) ∙ sym (bases_at slots place) ∙ h))
  | inr (slot, e) ↦ by_stage slots place base slot e slot.stage refl (sym (ap (base_of slots) e) ∙ sym (bases_at slots place) ∙ h)
]

-- ---- nodes at places

pub map_same : {X Y : Type 0} (f g : X → Y) (xs : List X) → All (λ x. f x ≡ g x) xs → map f xs ≡ map g xs
map_same f g [] h = refl
map_same f g (x ∷ xs) h =
    ap (λ t. t ∷ map f xs) (All-head (λ y. f y ≡ g y) x xs h) ∙ ap (λ t. g x ∷ t) (map_same f g xs (All-tail (λ y. f y ≡ g y) x xs h))

pub nodes_same : (region : Region) (old new : Slots) (nodes : List OpenNode) → All (λ e. changes_at new e.place ≡ changes_at old e.place) nodes → nodes_at region new nodes ≡ nodes_at region old nodes
nodes_same region old new nodes h =
    map_same (node_at region new) (node_at region old) nodes (λ k d l. ap (λ t. (node_in (after region t) ((get_or nodes k d).id) ((get_or nodes k d).bound))) (h k d l))

-- nodes at one stage are not at the place of a node at another
pub stage_apart : (stage : Stage) (slots : Slots) (place : ℕ) (slot : Slot) (nodes : List OpenNode) → slot_at slots place ≡ Some slot → slot.stage ≢ stage → All (StandsAs stage slots) nodes → All (λ e. e.place ≢ place) nodes
stage_apart stage slots place slot nodes e d h = λ k x l same.
    let s = h k x l in
    d (ap (λ (t : Slot). t.stage) (same_slot slots place slot s.slot e (ap (slot_at slots) (sym same) ∙ s.found)) ∙ s.stage_is)

-- nodes whose slots are as they were stand there still
pub stand_still : (stage : Stage) (old new : Slots) (place : ℕ) (nodes : List OpenNode) → ((k : ℕ) (s : Slot) → k ≢ place → slot_at old k ≡ Some s → s.stage ≡ stage → slot_at new k ≡ Some s) → All (λ e. e.place ≢ place) nodes → All (StandsAs stage old) nodes → All (StandsAs stage new) nodes
stand_still stage old new place nodes others d h = λ k x l. let s = h k x l in record {
  slot = s.slot;
  found = others _ s.slot (d k x l) s.found s.stage_is;
  number = s.number;
  stage_is = s.stage_is;
}

-- their changes are as they were
pub changes_still : (stage : Stage) (old new : Slots) (D : ℕ → Type 0) (nodes : List OpenNode) → KeepsPaths old new D → All (λ e. D e.place) nodes → All (StandsAs stage new) nodes → All (λ e. changes_at new e.place ≡ changes_at old e.place) nodes
changes_still stage old new D nodes keeps d h = λ k x l. let s = h k x l in same_changes old new D keeps _ s.slot (d k x l) s.found

-- ---- how often a place stands among nodes

at_none : (place : ℕ) (nodes : List OpenNode) → All (λ e. e.place ≢ place) nodes → count_by (is_at place) nodes ≡ 0
at_none place [] h = refl
at_none place (e ∷ es) h =
    omega (arith, sum_by-cons (λ x. one_if (is_at place x)) e es, ap one_if (not_equal e.place place (All-head (λ x. x.place ≢ place) e es h)), at_none place es (All-tail (λ x. x.place ≢ place) e es h))
  where
    not_equal : (m n : ℕ) → m ≢ n → (m == n) ≡ false
    not_equal m n d = grind arith

pub apart_by_count : (place : ℕ) (nodes : List OpenNode) → count_by (is_at place) nodes ≡ 0 → All (λ e. e.place ≢ place) nodes
apart_by_count place nodes h = λ k d l same.
    omega (arith, h, get_or-le-sum_by (λ x. one_if (is_at place x)) nodes k d l, ap one_if (equal_test (get_or nodes k d).place place same))
  where
    equal_test : (m n : ℕ) → m ≡ n → (m == n) ≡ true
    equal_test m n e = grind arith

abbrev pub AtOnce : List OpenNode → Type 0
AtOnce nodes = (place : ℕ) → count_by (is_at place) nodes ≤ 1

-- the first of a list in which no place stands twice is apart from the others
pub first_apart : (e : OpenNode) (nodes others : List OpenNode) → AtOnce nodes → IsPermutation nodes (e ∷ others) → AtOnce others × All (λ x. x.place ≢ e.place) others
first_apart e nodes others h p =
    let at : (place : ℕ) → one_if (is_at place e) + count_by (is_at place) others ≤ 1 = λ place. omega (arith, h place, sum_by-IsPermutation (λ x. one_if (is_at place x)) nodes (e ∷ others) p, sum_by-cons (λ x. one_if (is_at place x)) e others) in
    ((λ place. omega (arith, at place)), apart_by_count e.place others (omega (arith, at e.place, ap one_if (itself e.place))))
  where
    itself : (n : ℕ) → (n == n) ≡ true
    itself n = grind arith

-- a node at a new place may be added
pub added_apart : (e : OpenNode) (nodes more : List OpenNode) → AtOnce nodes → All (λ x. x.place ≢ e.place) nodes → IsPermutation (e ∷ nodes) more → AtOnce more
added_apart e nodes more h d p = λ place.
    let total : count_by (is_at place) more ≡ one_if (is_at place e) + count_by (is_at place) nodes = sum_by-IsPermutation (λ x. one_if (is_at place x)) (e ∷ nodes) more p ∙ sum_by-cons (λ x. one_if (is_at place x)) e nodes in
    elim (cases_eq e.place place) [
      | inl same ↦ omega (arith, total, one_at_most (is_at place e), ap (λ k. count_by (is_at k) nodes) same, at_none e.place nodes d)
      | inr apart ↦ omega (arith, total, h place, ap one_if (unlike e.place place apart))
    ]
  where
    one_at_most : (b : Bool) → one_if b ≤ 1
    one_at_most true = omega arith
    one_at_most false = omega arith

    unlike : (m n : ℕ) → m ≢ n → (m == n) ≡ false
    unlike m n d = grind arith
