-- What a tree's answer says of points.
use Rattle.std.proofs.Common.{◌≡◌, ◌⊎◌, inl, inr, ℕ, zero, suc, ◌+◌, ◌*◌, ◌^◌, ◌<◌, ◌≤◌, ℤ, Bool, true, false, not, cond, List, [], ◌∷◌, length, Option, None, Some, Result, Ok, Err, IfOk, refl, sym, ap, ◌∙◌, subst, arith, true≢false, slice_get}
use Rattle.std.specs.Prelude.{nat_lt, nat_le, slice_index_or}
use Rattle.std.proofs.lemmas.Bool.{and_parts, ltb-true}
use Rattle.std.proofs.lemmas.Option.{none-some}
use Rattle.cip_rational.specs.Rational.{ℚ, ◌≤ℚ◌, le_test}
use Rattle.cip_rational.specs.Sums.{dot}
use Rattle.cip_rational.proofs.Rational.Order.{≤ℚ_trans}
use Rattle.cip_problem.specs.Program.{Sides, Row, Choice, Plain, Open, Off, On}
use Rattle.cip_problem.specs.Box.{sides_at}
use Rattle.cip_problem.specs.Choices.{choice_at}
use Rattle.cip_problem.specs.Log.{Node, low_node, high_node, low_of, high_of, CanSplitAt}
use Rattle.cip_pricing.specs.TreeBounds.{IsNodePoint, IsTreeBound}
use Rattle.cip_pricing.proofs.Trees.{in_a_half, minimum_left, minimum_right}
use Rattle.cip_cert.specs.Lent.{Lent, Fits, multiples_of}
use Rattle.cip_cert.specs.Follows.{RowsHold, BoundFollows, EmptinessFollows}
use Rattle.cip_cert.specs.Checks.{lower_bound_of, emptied}
use Rattle.cip_cert.specs.declared.faults.CutFault.{CutFault}
use Rattle.cip_cert.specs.declared.pricing.BoundTree.{BoundTree, Bound, Empty, Split'}
use Rattle.cip_cert.proofs.Meaning.{lower_bound_follows, empties_follows}
use Rattle.cip_lagrange.specs.declared.answers.TreeBound.{TreeBound}
use Rattle.cip_lagrange.specs.declared.answers.TreeBound.TheVariants.{Finite, NoPoint}
use Rattle.cip_lagrange.specs.declared.answers.TreeFault.{TreeFault}
use Rattle.cip_lagrange.specs.declared.answers.TreeFault.TheVariants.{TooDeep, BadSplit}
use Rattle.cip_lagrange.specs.TreeOutcomes.{can_halve, can_split_at, can_split, split_fault, after, unless, finite_at, none_at, lesser_bound, tree_outcome}
use Rattle.cip_lagrange.specs.TreeMeaning.{TreeFollows, number_of, own_rows}
use Rattle.cip_lagrange.proofs.Entered.{length-slice_set}

-- ---- leaves

finite_follows : (number : ℕ) (outcome : Result ℚ CutFault) (lent : Lent) (integral : List Bool) (costs : List ℚ)
    (node : Node) → IfOk outcome (BoundFollows lent node.box costs)
    → IfOk (finite_at number outcome) (TreeFollows lent integral costs node)
finite_follows number (Ok bound) lent integral costs node h = λ point rows p. h point rows p.within
finite_follows number (Err fault) lent integral costs node h = tt

none_follows : (number : ℕ) (outcome : Result ℚ CutFault) (lent : Lent) (integral : List Bool) (costs : List ℚ)
    (node : Node) → IfOk outcome (λ b. EmptinessFollows lent node.box)
    → IfOk (none_at number outcome) (TreeFollows lent integral costs node)
none_follows number (Ok bound) lent integral costs node h = λ point rows p. h point rows p.within
none_follows number (Err fault) lent integral costs node h = tt

-- ---- splits

get_true : (flags : List Bool) (column : ℕ) → slice_index_or flags column false ≡ true
    → slice_get flags column ≡ Some true
get_true [] column e = absurd (true≢false (sym e))
get_true (f ∷ fs) zero e = ap (λ b. Some b) e
get_true (f ∷ fs) (suc column) e = get_true fs column e

get_false : (flags : List Bool) (column : ℕ) → column < length flags → slice_index_or flags column false ≡ false
    → slice_get flags column ≡ Some false
get_false [] column l e = absurd (omega (arith, l))
get_false (f ∷ fs) zero l e = ap (λ b. Some b) e
get_false (f ∷ fs) (suc column) l e = get_false fs column (omega (arith, l)) e

not_true : (b : Bool) → not b ≡ true → b ≡ false
not_true true e = absurd (true≢false (sym e))
not_true false e = refl

can_split_kind : (choice : Choice) (flags : List Bool) (column : ℕ) (sides : Sides) (at : ℤ) → column < length flags
    → can_split_at choice (slice_index_or flags column false) sides at ≡ true
    → CanSplitAt choice (slice_get flags column)
can_split_kind Plain flags column sides at l e =
    let parts = and_parts (slice_index_or flags column false) (can_halve sides at) e in get_true flags column parts.0
can_split_kind (Open own) flags column sides at l e =
    get_false flags column l (not_true (slice_index_or flags column false) e)
can_split_kind Off flags column sides at l e = absurd (true≢false (sym e))
can_split_kind On flags column sides at l e = absurd (true≢false (sym e))

can_split_means : (integral : List Bool) (node : Node) (column : ℕ) (at : ℤ) → length integral ≡ length node.box
    → can_split integral node column at ≡ true → CanSplitAt (choice_at node.choices column) (slice_get integral column)
can_split_means integral node column at l e =
    let parts =
    and_parts (nat_lt column (length node.box))
    (can_split_at (choice_at node.choices column) (slice_index_or integral column false)
    (sides_at node.box column) at)
    e in
    can_split_kind (choice_at node.choices column) integral column (sides_at node.box column) at
    (omega (arith, l, ltb-true column (length node.box) parts.0)) parts.1

split_cases : (integral : List Bool) (number : ℕ) (node : Node) (column : ℕ) (at : ℤ) (deep can : Bool)
    → can_split integral node column at ≡ can
    → cond deep (Some TooDeep) (cond can None (Some (BadSplit number))) ≡ None
    → can_split integral node column at ≡ true
split_cases integral number node column at true can e f = absurd (none-some TooDeep (sym f))
split_cases integral number node column at false true e f = e
split_cases integral number node column at false false e f = absurd (none-some (BadSplit number) (sym f))

no_fault : (integral : List Bool) (number : ℕ) (node : Node) (column : ℕ) (at : ℤ) → length integral ≡ length node.box
    → split_fault integral number node column at ≡ None
    → CanSplitAt (choice_at node.choices column) (slice_get integral column)
no_fault integral number node column at l e =
    can_split_means integral node column at l
    (split_cases integral number node column at (nat_le (2 ^ 64) number) (can_split integral node column at) refl e)

unless_follows : (P : TreeBound → Type 0) (fault : Option TreeFault) (outcome : Result TreeBound TreeFault)
    → (fault ≡ None → IfOk outcome P) → IfOk (unless fault outcome) P
unless_follows P None outcome h = h refl
unless_follows P (Some fault) outcome h = tt

after_follows : (P Q : TreeBound → Type 0) (outcome : Result TreeBound TreeFault)
    (next : TreeBound → Result TreeBound TreeFault) → IfOk outcome P → ((b : TreeBound) → P b → IfOk (next b) Q)
    → IfOk (after outcome next) Q
after_follows P Q (Ok bound) next h k = k bound h
after_follows P Q (Err fault) next h k = tt

-- ---- halves

low-long : (node : Node) (column : ℕ) (at : ℤ) (choice : Choice)
    → length (low_of choice node column at).box ≡ length node.box
low-long node column at Plain = length-slice_set node.box column _
low-long node column at (Open own) = length-slice_set node.box column _
low-long node column at Off = length-slice_set node.box column _
low-long node column at On = length-slice_set node.box column _

high-long : (node : Node) (column : ℕ) (at : ℤ) (choice : Choice)
    → length (high_of choice node column at).box ≡ length node.box
high-long node column at Plain = length-slice_set node.box column _
high-long node column at (Open own) = length-slice_set node.box column _
high-long node column at Off = length-slice_set node.box column _
high-long node column at On = length-slice_set node.box column _

-- ---- the lesser bound

-- a bound is at most a value; none is, where there is no point
abbrev Reaches : TreeBound → ℚ → Type 0
Reaches (Finite bound) value = bound ≤ℚ value
Reaches NoPoint value = ⊥

lesser_low : (low high : TreeBound) (value : ℚ) → Reaches low value → Reaches (lesser_bound low high) value
lesser_low NoPoint high value h = absurd h
lesser_low (Finite a) NoPoint value h = h
lesser_low (Finite a) (Finite b) value h = ≤ℚ_trans (minimum_left a b (le_test a b) refl) h

lesser_high : (low high : TreeBound) (value : ℚ) → Reaches high value → Reaches (lesser_bound low high) value
lesser_high low NoPoint value h = absurd h
lesser_high NoPoint (Finite b) value h = h
lesser_high (Finite a) (Finite b) value h = ≤ℚ_trans (minimum_right a b (le_test a b) refl) h

module _ (lent : Lent) (integral : List Bool) (costs : List ℚ) where
  reaches : (node : Node) (bound : TreeBound) (point : List ℚ) → TreeFollows lent integral costs node bound
      → RowsHold lent point → IsNodePoint [] integral node point → Reaches bound (dot costs point)
  reaches node (Finite bound) point h rows p = h point rows p
  reaches node NoPoint point h rows p = h point rows p

  from_reaches : (node : Node) (bound : TreeBound)
      → ((point : List ℚ) → RowsHold lent point → IsNodePoint [] integral node point → Reaches bound (dot costs point))
      → TreeFollows lent integral costs node bound
  from_reaches node (Finite bound) f = f
  from_reaches node NoPoint f = f

  halves_follow : (node : Node) (column : ℕ) (at : ℤ) (low high : TreeBound)
      → CanSplitAt (choice_at node.choices column) (slice_get integral column)
      → TreeFollows lent integral costs (low_node node column at) low
      → TreeFollows lent integral costs (high_node node column at) high
      → TreeFollows lent integral costs node (lesser_bound low high)
  halves_follow node column at low high s f g =
      from_reaches node (lesser_bound low high)
      (λ point rows p. either point rows (in_a_half [] integral node column at point s p))
    where
      either : (point : List ℚ) → RowsHold lent point
          → IsNodePoint [] integral (low_node node column at) point ⊎ IsNodePoint [] integral
          (high_node node column at) point
          → Reaches (lesser_bound low high) (dot costs point)
      either point rows (inl p) =
          lesser_low low high (dot costs point) (reaches (low_node node column at) low point f rows p)
      either point rows (inr p) =
          lesser_high low high (dot costs point) (reaches (high_node node column at) high point g rows p)

  -- ---- trees

  pub tree_follows : (room number : ℕ) (tree : BoundTree) (node : Node) → Fits (length node.box) lent
      → length node.box ≤ room → length costs ≡ length node.box → length integral ≡ length node.box
      → IfOk
      (tree_outcome (record { lent = lent; integral = integral; room = room; costs = costs }) number tree node)
      (TreeFollows lent integral costs node)
  tree_follows room number (Bound combo) node fits wide priced flags =
      finite_follows number (lower_bound_of lent node.box room costs (multiples_of combo)) lent integral costs node
      (lower_bound_follows lent node.box room (multiples_of combo) fits wide costs priced)
  tree_follows room number (Empty combo) node fits wide priced flags =
      none_follows number (emptied lent node.box room (multiples_of combo)) lent integral costs node
      (empties_follows lent node.box room (multiples_of combo) fits wide
      (emptied lent node.box room (multiples_of combo))
      refl)
  tree_follows room number (Split' column at p low q high) node fits wide priced flags =
      let below : length (low_node node column at).box ≡ length node.box = low-long node column at
      (choice_at node.choices column) in
      let above : length (high_node node column at).box ≡ length node.box = high-long node column at
      (choice_at node.choices column) in
      unless_follows (TreeFollows lent integral costs node) (split_fault integral number node column at) _
      (λ e.
      after_follows (TreeFollows lent integral costs (low_node node column at)) (TreeFollows lent integral costs node)
      _ _
      (tree_follows room (2 * number) low (low_node node column at) (subst (λ n. Fits n lent) (sym below) fits)
      (omega (arith, below, wide)) (priced ∙ sym below) (flags ∙ sym below))
      (λ a h.
      after_follows (TreeFollows lent integral costs (high_node node column at))
      (TreeFollows lent integral costs node) _ _
      (tree_follows room (2 * number + 1) high (high_node node column at) (subst (λ n. Fits n lent) (sym above) fits)
      (omega (arith, above, wide)) (priced ∙ sym above) (flags ∙ sym above))
      (λ b k. halves_follow node column at a b (no_fault integral number node column at flags e) h k)))

-- ---- rows alone

pub tree_bounds : (rows : List Row) (integral : List Bool) (costs : List ℚ) (node : Node) (bound : TreeBound)
    → TreeFollows (own_rows rows) integral costs node bound → IsTreeBound rows integral costs node (number_of bound)
tree_bounds rows integral costs node (Finite bound) h = λ point p.
    h point (record { own = p.satisfied; pool = tt; cutoff = tt })
    (record { within = p.within; whole = p.whole; choices = p.choices; satisfied = tt })
tree_bounds rows integral costs node NoPoint h = λ point p.
    h point (record { own = p.satisfied; pool = tt; cutoff = tt })
    (record { within = p.within; whole = p.whole; choices = p.choices; satisfied = tt })
