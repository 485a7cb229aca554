-- The halves of a node: together they have its points with whole and allowed values, and none that it has not.
use borrow.Author.Differences.{sum_is_lem, at_most_in}
use Rattle.std.proofs.Common.{◌≡◌, ◌⊎◌, inl, inr, zero, suc, ℕ, ◌+◌, ◌^◌, ℤ, pos, ◌+ℤ◌, Bool, true, false, List, [], ◌∷◌, Option, None, Some, IfSome, slice_get, slice_set, refl, sym, ap, ◌∙◌, subst, arith, true≢false}
use Rattle.std.proofs.Math.Nat.{pow-succ'}
use Rattle.std.proofs.lemmas.Option.{none-some, same_Some}
use Rattle.cip_rational.specs.Rational.{ℚ, integer, ◌+ℚ◌, ◌≤ℚ◌, IsWhole}
use Rattle.cip_rational.proofs.Rational.Order.{≤ℚ_trans, le_or_lt}
use Rattle.cip_rational.proofs.Rational.Whole.{IsWhole-integer}
use Rattle.cip_rational.proofs.Rational.Rounding.{integer-add, integer-one, integer_le, whole_gap}
use Rattle.cip_problem.specs.Program.{Sides, Choice, Plain, Open, Off, On}
use Rattle.cip_problem.specs.Activity.{value_at}
use Rattle.cip_problem.specs.Box.{Between, IsInBox, sides_at}
use Rattle.cip_problem.specs.Points.{AreWhole}
use Rattle.cip_problem.specs.Wholes.{wholes_between, times, assignments, plus, AtMost, HasWhole, AllHaveWholes}
use Rattle.cip_problem.specs.Choices.{choice_at, Allows, KeepsChoices, zero_sides, is_open, open_count, ways}
use Rattle.cip_problem.proofs.Wholes.Counts.{times_more, more_times, split_wholes}
use Rattle.cip_problem.proofs.Points.AtPlaces.{in_box_at}
use Rattle.cip_problem.proofs.Choices.Meeting.{between_met, zero_between, set_in_box, met_within}
use Rattle.cip_problem.specs.Log.{Node, low_half, high_half, low_of, high_of, low_node, high_node, leaf_count, CanSplitAt, CanSplit}

-- a whole value is at most a whole number, or at least the next one
pub below_or_above : (value : ℚ) (at : ℤ) → IsWhole value → (value ≤ℚ integer at) ⊎ (integer (at +ℤ pos 1) ≤ℚ value)
below_or_above value at h = elim (le_or_lt value (integer at)) [
  | inl k ↦ inl k
  | inr k ↦
      inr (subst (λ t. t ≤ℚ value) (sym (integer-add at (pos 1) ∙ ap (λ t. integer at +ℚ t) integer-one)) (whole_gap (integer at) value (IsWhole-integer at) h k))
]

pub at_le_next : (at : ℤ) → integer at ≤ℚ integer (at +ℤ pos 1)
at_le_next at = integer_le at (at +ℤ pos 1) (at_most_in _ _ (omega (arith, sum_is_lem at (pos 1))))

-- ---- each point is in a half

split_sides : (sides : Sides) (value : ℚ) (at : ℤ) → Between sides.low sides.high value → IsWhole value → Between sides.low (Some (integer at)) value ⊎ Between (Some (integer (at +ℤ pos 1))) sides.high value
split_sides sides value at h k = elim (below_or_above value at k) [
  | inl l ↦ inl (record { above = h.above; below = l })
  | inr l ↦ inr (record { above = l; below = h.below })
]

whole_halves_cover : (integral : List Bool) (box : List Sides) (column : ℕ) (at : ℤ) (point : List ℚ) → IsInBox box point → AreWhole integral point → slice_get integral column ≡ Some true → IsInBox (low_half box column at) point ⊎ IsInBox (high_half box column at) point
whole_halves_cover [] box column at point h k e = absurd (none-some true e)
whole_halves_cover (w ∷ ws) [] column at point h k e = inl h
whole_halves_cover (w ∷ ws) (s ∷ ss) column at [] h k e = absurd h
whole_halves_cover (w ∷ ws) (s ∷ ss) zero at (v ∷ vs) h k e =
    elim (split_sides s v at h.0 (k.0 (same_Some w true e))) [
      | inl l ↦ inl (l, h.1)
      | inr l ↦ inr (l, h.1)
    ]
whole_halves_cover (w ∷ ws) (s ∷ ss) (suc column) at (v ∷ vs) h k e = elim (whole_halves_cover ws ss column at vs h.1 k.1 e) [
  | inl l ↦ inl (h.0, l)
  | inr l ↦ inr (h.0, l)
]

pub open_halves_cover : (node : Node) (column : ℕ) (own : Sides) (at : ℤ) (point : List ℚ) → IsInBox node.box point → Allows (Open own) (value_at point column) → IsInBox (low_of (Open own) node column at).box point ⊎ IsInBox (high_of (Open own) node column at).box point
open_halves_cover node column own at point h (inl e) =
    inl (set_in_box node.box column _ point h (between_met (sides_at node.box column) zero_sides (value_at point column) (in_box_at node.box point column h) (zero_between (value_at point column) e)))
open_halves_cover node column own at point h (inr k) =
    inr (set_in_box node.box column _ point h (between_met (sides_at node.box column) own (value_at point column) (in_box_at node.box point column h) k))

cover_of : (choice : Choice) (integral : List Bool) (node : Node) (column : ℕ) (at : ℤ) (point : List ℚ) → IsInBox node.box point → AreWhole integral point → Allows choice (value_at point column) → CanSplitAt choice (slice_get integral column) → IsInBox (low_of choice node column at).box point ⊎ IsInBox (high_of choice node column at).box point
cover_of Plain integral node column at point h k a e = whole_halves_cover integral node.box column at point h k e
cover_of (Open own) integral node column at point h k a e = open_halves_cover node column own at point h a
cover_of Off integral node column at point h k a e = absurd e
cover_of On integral node column at point h k a e = absurd e

pub halves_cover : (integral : List Bool) (node : Node) (column : ℕ) (at : ℤ) (point : List ℚ) → IsInBox node.box point → AreWhole integral point → KeepsChoices node.choices point → CanSplitAt (choice_at node.choices column) (slice_get integral column) → IsInBox (low_node node column at).box point ⊎ IsInBox (high_node node column at).box point
halves_cover integral node column at point h k a e = cover_of (choice_at node.choices column) integral node column at point h k (a column) e

-- ---- each point of a half is one of the box

below_high : (high : Option ℚ) (value : ℚ) (at : ℤ) → HasWhole (record { low = Some (integer (at +ℤ pos 1)); high = high }) → value ≤ℚ integer at → IfSome high (λ side. value ≤ℚ side)
below_high None value at h k = tt
below_high (Some side) value at h k = ≤ℚ_trans k (≤ℚ_trans (at_le_next at) (≤ℚ_trans h.between.above h.between.below))

above_low : (low : Option ℚ) (value : ℚ) (at : ℤ) → HasWhole (record { low = low; high = Some (integer at) }) → integer (at +ℤ pos 1) ≤ℚ value → IfSome low (λ side. side ≤ℚ value)
above_low None value at h k = tt
above_low (Some side) value at h k = ≤ℚ_trans h.between.above (≤ℚ_trans h.between.below (≤ℚ_trans (at_le_next at) k))

low_within : (integral : List Bool) (box : List Sides) (column : ℕ) (at : ℤ) (point : List ℚ) → slice_get integral column ≡ Some true → AllHaveWholes integral (high_half box column at) → IsInBox (low_half box column at) point → IsInBox box point
low_within integral [] column at point e k h = h
low_within [] (s ∷ ss) column at point e k h = absurd (none-some true e)
low_within (w ∷ ws) (s ∷ ss) zero at [] e k h = absurd h
low_within (w ∷ ws) (s ∷ ss) (suc column) at [] e k h = absurd h
low_within (w ∷ ws) (s ∷ ss) zero at (v ∷ vs) e k h =
    (record { above = h.0.above; below = below_high s.high v at (k.0 (same_Some w true e)) h.0.below }, h.1)
low_within (w ∷ ws) (s ∷ ss) (suc column) at (v ∷ vs) e k h = (h.0, low_within ws ss column at vs e k.1 h.1)

high_within : (integral : List Bool) (box : List Sides) (column : ℕ) (at : ℤ) (point : List ℚ) → slice_get integral column ≡ Some true → AllHaveWholes integral (low_half box column at) → IsInBox (high_half box column at) point → IsInBox box point
high_within integral [] column at point e k h = h
high_within [] (s ∷ ss) column at point e k h = absurd (none-some true e)
high_within (w ∷ ws) (s ∷ ss) zero at [] e k h = absurd h
high_within (w ∷ ws) (s ∷ ss) (suc column) at [] e k h = absurd h
high_within (w ∷ ws) (s ∷ ss) zero at (v ∷ vs) e k h =
    (record { above = above_low s.low v at (k.0 (same_Some w true e)) h.0.above; below = h.0.below }, h.1)
high_within (w ∷ ws) (s ∷ ss) (suc column) at (v ∷ vs) e k h = (h.0, high_within ws ss column at vs e k.1 h.1)

low_within_of : (choice : Choice) (integral : List Bool) (node : Node) (column : ℕ) (at : ℤ) (point : List ℚ) → CanSplitAt choice (slice_get integral column) → AllHaveWholes integral (high_of choice node column at).box → IsInBox (low_of choice node column at).box point → IsInBox node.box point
low_within_of Plain integral node column at point e k h = low_within integral node.box column at point e k h
low_within_of (Open own) integral node column at point e k h = met_within node.box column zero_sides point h
low_within_of Off integral node column at point e k h = absurd e
low_within_of On integral node column at point e k h = absurd e

high_within_of : (choice : Choice) (integral : List Bool) (node : Node) (column : ℕ) (at : ℤ) (point : List ℚ) → CanSplitAt choice (slice_get integral column) → AllHaveWholes integral (low_of choice node column at).box → IsInBox (high_of choice node column at).box point → IsInBox node.box point
high_within_of Plain integral node column at point e k h = high_within integral node.box column at point e k h
high_within_of (Open own) integral node column at point e k h = met_within node.box column own point h
high_within_of Off integral node column at point e k h = absurd e
high_within_of On integral node column at point e k h = absurd e

pub low_node_within : (integral : List Bool) (node : Node) (column : ℕ) (at : ℤ) (point : List ℚ) → CanSplit integral node column at → IsInBox (low_node node column at).box point → IsInBox node.box point
low_node_within integral node column at point h k = low_within_of (choice_at node.choices column) integral node column at point h.kind h.high k

pub high_node_within : (integral : List Bool) (node : Node) (column : ℕ) (at : ℤ) (point : List ℚ) → CanSplit integral node column at → IsInBox (high_node node column at).box point → IsInBox node.box point
high_node_within integral node column at point h k = high_within_of (choice_at node.choices column) integral node column at point h.kind h.low k

-- ---- the leaves of the halves

halves_of_column : (integral : List Bool) (box : List Sides) (column : ℕ) (at : ℤ) → slice_get integral column ≡ Some true → AllHaveWholes integral (low_half box column at) → AllHaveWholes integral (high_half box column at) → AtMost (plus (assignments integral (low_half box column at)) (assignments integral (high_half box column at))) (assignments integral box)
halves_of_column [] box column at e h k = absurd (none-some true e)
halves_of_column (w ∷ ws) [] column at e h k = absurd h
halves_of_column (false ∷ ws) (s ∷ ss) zero at e h k = absurd (true≢false (sym (same_Some false true e)))
halves_of_column (true ∷ ws) (s ∷ ss) zero at e h k = times_more _ _ _ (assignments ws ss) (split_wholes s.low s.high at (h.0 refl) (k.0 refl))
halves_of_column (false ∷ ws) (s ∷ ss) (suc column) at e h k = halves_of_column ws ss column at e h.1 k.1
halves_of_column (true ∷ ws) (s ∷ ss) (suc column) at e h k = more_times (wholes_between s.low s.high) _ _ _ (halves_of_column ws ss column at e h.1 k.1)

-- the sides of a continuous column don't count
pub assignments-set : (integral : List Bool) (box : List Sides) (column : ℕ) (sides : Sides) → slice_get integral column ≡ Some false → assignments integral (slice_set box column sides) ≡ assignments integral box
assignments-set [] box column sides e = refl
assignments-set (w ∷ ws) [] column sides e = refl
assignments-set (false ∷ ws) (s ∷ ss) zero sides e = refl
assignments-set (true ∷ ws) (s ∷ ss) zero sides e = absurd (true≢false (same_Some true false e))
assignments-set (false ∷ ws) (s ∷ ss) (suc column) sides e = assignments-set ws ss column sides e
assignments-set (true ∷ ws) (s ∷ ss) (suc column) sides e = ap (λ n. times (wholes_between s.low s.high) n) (assignments-set ws ss column sides e)

-- a choice that is made is one less that is open
open_count-set : (choices : List Choice) (column : ℕ) (own : Sides) (made : Choice) → choice_at choices column ≡ Open own → is_open made ≡ false → suc (open_count (slice_set choices column made)) ≡ open_count choices
open_count-set [] column own made e m = absurd (cc)
open_count-set (Open o ∷ cs) zero own Plain e m = refl
open_count-set (Open o ∷ cs) zero own (Open p) e m = absurd (true≢false m)
open_count-set (Open o ∷ cs) zero own Off e m = refl
open_count-set (Open o ∷ cs) zero own On e m = refl
open_count-set (Plain ∷ cs) zero own made e m = absurd (cc)
open_count-set (Off ∷ cs) zero own made e m = absurd (cc)
open_count-set (On ∷ cs) zero own made e m = absurd (cc)
open_count-set (Open o ∷ cs) (suc column) own made e m = ap (λ n. suc n) (open_count-set cs column own made e m)
open_count-set (Plain ∷ cs) (suc column) own made e m = open_count-set cs column own made e m
open_count-set (Off ∷ cs) (suc column) own made e m = open_count-set cs column own made e m
open_count-set (On ∷ cs) (suc column) own made e m = open_count-set cs column own made e m

-- half of the ways are left
half_ways : (choices : List Choice) (column : ℕ) (own : Sides) (made : Choice) → choice_at choices column ≡ Open own → is_open made ≡ false → ways (slice_set choices column made) + ways (slice_set choices column made) ≡ ways choices
half_ways choices column own made e m =
    omega (arith, pow-succ' 2 (open_count (slice_set choices column made))) ∙ ap (λ n. 2 ^ n) (open_count-set choices column own made e m)

count_of : (choice : Choice) (integral : List Bool) (node : Node) (column : ℕ) (at : ℤ) → choice_at node.choices column ≡ choice → CanSplitAt choice (slice_get integral column) → AllHaveWholes integral (low_of choice node column at).box → AllHaveWholes integral (high_of choice node column at).box → AtMost (plus (leaf_count integral (low_of choice node column at)) (leaf_count integral (high_of choice node column at))) (leaf_count integral node)
count_of Plain integral node column at c e h k = more_times (Some (ways node.choices)) _ _ _ (halves_of_column integral node.box column at e h k)
count_of (Open own) integral node column at c e h k =
    let off = half_ways node.choices column own Off c refl in
    let on = half_ways node.choices column own On c refl in
    rw (assignments-set integral node.box column _ e, assignments-set integral node.box column _ e)
    (times_more (Some (ways (slice_set node.choices column Off))) (Some (ways (slice_set node.choices column On))) (Some (ways node.choices)) (assignments integral node.box) (omega (arith, off, on)))
count_of Off integral node column at c e h k = absurd e
count_of On integral node column at c e h k = absurd e

-- the halves have no more leaves together than the node
pub halves_count : (integral : List Bool) (node : Node) (column : ℕ) (at : ℤ) → CanSplit integral node column at → AtMost (plus (leaf_count integral (low_node node column at)) (leaf_count integral (high_node node column at))) (leaf_count integral node)
halves_count integral node column at h = count_of (choice_at node.choices column) integral node column at refl h.kind h.low h.high
