-- Bounds of both halves of a node bound the node.
use Rattle.std.proofs.Common.{◌≡◌, ◌⊎◌, inl, inr, ℕ, zero, suc, ℤ, Bool, true, false, cond, List, [], ◌∷◌, Option, None, Some, refl, sym, subst, slice_get}
use Rattle.std.specs.Prelude.{slice_set}
use Rattle.cip_rational.specs.Rational.{ℚ, ◌≤ℚ◌, le_test}
use Rattle.cip_rational.specs.Sums.{dot}
use Rattle.cip_rational.proofs.Rational.Order.{≤ℚ_refl, ≤ℚ_of_lt, ≤ℚ_trans, le_of_test, lt_of_le_test}
use Rattle.cip_problem.specs.Program.{Sides, Row, Choice, Plain, Open, Off, On, Program}
use Rattle.cip_problem.specs.Box.{IsInBox}
use Rattle.cip_problem.specs.Activity.{value_at}
use Rattle.cip_problem.specs.Choices.{choice_at, Allows, KeepsChoices, lesser}
use Rattle.cip_problem.specs.Log.{Node, low_node, high_node, low_of, high_of, CanSplitAt}
use Rattle.cip_problem.proofs.Log.Halves as halves
use Rattle.cip_pricing.specs.Decomposition.{Decomposition, picked, conditions_of, IsBlockPoint}
use Rattle.cip_pricing.specs.TreeBounds.{IsNodePoint, IsTreeBound}

-- ---- choices in a half

set_keeps : (choices : List Choice) (column : ℕ) (choice : Choice) (point : List ℚ)
    → ((value : ℚ) → Allows choice value) → KeepsChoices choices point
    → KeepsChoices (slice_set choices column choice) point
set_keeps [] column choice point f h k = h k
set_keeps (c ∷ cs) zero choice point f h zero = f (value_at point 0)
set_keeps (c ∷ cs) zero choice point f h (suc k) = h (suc k)
set_keeps (c ∷ cs) (suc column) choice [] f h zero = h 0
set_keeps (c ∷ cs) (suc column) choice (v ∷ vs) f h zero = h 0
set_keeps (c ∷ cs) (suc column) choice [] f h (suc k) = set_keeps cs column choice [] f (λ j. h (suc j)) k
set_keeps (c ∷ cs) (suc column) choice (v ∷ vs) f h (suc k) = set_keeps cs column choice vs f (λ j. h (suc j)) k

low_keeps : (node : Node) (column : ℕ) (at : ℤ) (point : List ℚ) (choice : Choice)
    → KeepsChoices node.choices point → KeepsChoices (low_of choice node column at).choices point
low_keeps node column at point Plain h = h
low_keeps node column at point (Open own) h = set_keeps node.choices column Off point (λ v. tt) h
low_keeps node column at point Off h = h
low_keeps node column at point On h = h

high_keeps : (node : Node) (column : ℕ) (at : ℤ) (point : List ℚ) (choice : Choice)
    → KeepsChoices node.choices point → KeepsChoices (high_of choice node column at).choices point
high_keeps node column at point Plain h = h
high_keeps node column at point (Open own) h = set_keeps node.choices column On point (λ v. tt) h
high_keeps node column at point Off h = h
high_keeps node column at point On h = h

-- a point of a node is one of a half of it
pub in_a_half : (rows : List Row) (integral : List Bool) (node : Node) (column : ℕ) (at : ℤ) (point : List ℚ)
    → CanSplitAt (choice_at node.choices column) (slice_get integral column) → IsNodePoint rows integral node point
    → IsNodePoint rows integral (low_node node column at) point ⊎ IsNodePoint rows integral (high_node node column at)
    point
in_a_half rows integral node column at point s p =
    either (halves.halves_cover integral node column at point p.within p.whole p.choices s)
  where
    either : IsInBox (low_node node column at).box point ⊎ IsInBox (high_node node column at).box point
        → IsNodePoint rows integral (low_node node column at) point ⊎ IsNodePoint rows integral
        (high_node node column at) point
    either (inl w) = inl (record {
      within = w;
      whole = p.whole;
      choices = low_keeps node column at point (choice_at node.choices column)
          p.choices;
      satisfied = p.satisfied;
    })
    either (inr w) = inr (record {
      within = w;
      whole = p.whole;
      choices = high_keeps node column at point (choice_at node.choices column)
          p.choices;
      satisfied = p.satisfied;
    })

-- ---- the lesser bound

pub minimum_left : (a b : ℚ) (t : Bool) → le_test a b ≡ t → cond t a b ≤ℚ a
minimum_left a b true e = ≤ℚ_refl a
minimum_left a b false e = ≤ℚ_of_lt (lt_of_le_test e)

pub minimum_right : (a b : ℚ) (t : Bool) → le_test a b ≡ t → cond t a b ≤ℚ b
minimum_right a b true e = le_of_test e
minimum_right a b false e = ≤ℚ_refl b

-- a number, if there is one, is at most a value
abbrev Reaches : Option ℚ → ℚ → Type 0
Reaches None value = ⊥
Reaches (Some bound) value = bound ≤ℚ value

bound_reaches : (rows : List Row) (integral : List Bool) (costs : List ℚ) (node : Node) (bound : Option ℚ)
    (point : List ℚ) → IsTreeBound rows integral costs node bound → IsNodePoint rows integral node point
    → Reaches bound (dot costs point)
bound_reaches rows integral costs node None point h p = h point p
bound_reaches rows integral costs node (Some bound) point h p = h point p

reaches_bound : (rows : List Row) (integral : List Bool) (costs : List ℚ) (node : Node) (bound : Option ℚ)
    → ((point : List ℚ) → IsNodePoint rows integral node point → Reaches bound (dot costs point))
    → IsTreeBound rows integral costs node bound
reaches_bound rows integral costs node None f = f
reaches_bound rows integral costs node (Some bound) f = f

lesser_low : (low high : Option ℚ) (value : ℚ) → Reaches low value → Reaches (lesser low high) value
lesser_low None high value h = absurd h
lesser_low (Some a) None value h = h
lesser_low (Some a) (Some b) value h = ≤ℚ_trans (minimum_left a b (le_test a b) refl) h

lesser_high : (low high : Option ℚ) (value : ℚ) → Reaches high value → Reaches (lesser low high) value
lesser_high low None value h = absurd h
lesser_high None (Some b) value h = h
lesser_high (Some a) (Some b) value h = ≤ℚ_trans (minimum_right a b (le_test a b) refl) h

pub split_bound : (rows : List Row) (integral : List Bool) (costs : List ℚ) (node : Node) (column : ℕ) (at : ℤ)
    (low high : Option ℚ) → CanSplitAt (choice_at node.choices column) (slice_get integral column)
    → IsTreeBound rows integral costs (low_node node column at) low
    → IsTreeBound rows integral costs (high_node node column at) high
    → IsTreeBound rows integral costs node (lesser low high)
split_bound rows integral costs node column at low high s f g =
    reaches_bound rows integral costs node (lesser low high)
    (λ point p. either point (in_a_half rows integral node column at point s p))
  where
    either : (point : List ℚ)
        → IsNodePoint rows integral (low_node node column at) point ⊎ IsNodePoint rows integral
        (high_node node column at) point → Reaches (lesser low high) (dot costs point)
    either point (inl p) = lesser_low low high (dot costs point)
        (bound_reaches rows integral costs (low_node node column at) low point f p)
    either point (inr p) = lesser_high low high (dot costs point)
        (bound_reaches rows integral costs (high_node node column at) high point g p)

-- ---- blocks

pub node_point : (program : Program) (blocks : Decomposition) (box : List Sides) (block : ℕ) (node : Node)
    (point : List ℚ) → node.box ≡ picked (Some block) blocks.columns box
    → node.choices ≡ (conditions_of program blocks block).choices → IsBlockPoint program blocks box block point
    → IsNodePoint (conditions_of program blocks block).rows (conditions_of program blocks block).integral node point
node_point program blocks box block node point e f p = record {
  within = subst (λ b. IsInBox b point) (sym e) p.within;
  whole = p.whole;
  choices = subst (λ c. KeepsChoices c point) (sym f) p.choices;
  satisfied = p.rows;
}
