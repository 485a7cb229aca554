-- Nodes with the same box and the same choices have the same halves; and a point of a node's box that lies in the half of
-- another node with the same choices lies in the half of its own.
use Rattle.std.proofs.Common.{◌≡◌, ℕ, zero, suc, ℤ, Bool, List, [], ◌∷◌, slice_get, slice_set, ap, ◌∙◌, subst}
use Rattle.cip_rational.specs.Rational.{ℚ}
use Rattle.cip_problem.specs.Program.{Sides, Choice, Plain, Open, Off, On}
use Rattle.cip_problem.specs.Box.{IsInBox, sides_at}
use Rattle.cip_problem.specs.Wholes.{AllHaveWholes}
use Rattle.cip_problem.specs.Choices.{choice_at, met, zero_sides}
use Rattle.cip_problem.specs.Log.{Node, low_half, high_half, low_of, high_of, low_node, high_node, CanSplitAt, CanSplit}
use Rattle.cip_problem.proofs.Choices.Meeting.{between_both, between_met}

-- ---- the same halves

low_box_of : (choice : Choice) (node other : Node) (column : ℕ) (at : ℤ) → node.box ≡ other.box → (low_of choice node column at).box ≡ (low_of choice other column at).box
low_box_of Plain node other column at e = ap (λ b. low_half b column at) e
low_box_of (Open own) node other column at e = ap (λ b. slice_set b column (met (sides_at b column) zero_sides)) e
low_box_of Off node other column at e = ap (λ b. low_half b column at) e
low_box_of On node other column at e = ap (λ b. low_half b column at) e

high_box_of : (choice : Choice) (node other : Node) (column : ℕ) (at : ℤ) → node.box ≡ other.box → (high_of choice node column at).box ≡ (high_of choice other column at).box
high_box_of Plain node other column at e = ap (λ b. high_half b column at) e
high_box_of (Open own) node other column at e = ap (λ b. slice_set b column (met (sides_at b column) own)) e
high_box_of Off node other column at e = ap (λ b. high_half b column at) e
high_box_of On node other column at e = ap (λ b. high_half b column at) e

pub low_box : (node other : Node) (column : ℕ) (at : ℤ) → node.box ≡ other.box → node.choices ≡ other.choices → (low_node node column at).box ≡ (low_node other column at).box
low_box node other column at e f = low_box_of (choice_at node.choices column) node other column at e ∙ ap (λ c. (low_of (choice_at c column) other column at).box) f

pub high_box : (node other : Node) (column : ℕ) (at : ℤ) → node.box ≡ other.box → node.choices ≡ other.choices → (high_node node column at).box ≡ (high_node other column at).box
high_box node other column at e f = high_box_of (choice_at node.choices column) node other column at e ∙ ap (λ c. (high_of (choice_at c column) other column at).box) f

pub low_choices_of : (choice : Choice) (node other : Node) (column : ℕ) (at : ℤ) → node.choices ≡ other.choices → (low_of choice node column at).choices ≡ (low_of choice other column at).choices
low_choices_of Plain node other column at e = e
low_choices_of (Open own) node other column at e = ap (λ c. slice_set c column Off) e
low_choices_of Off node other column at e = e
low_choices_of On node other column at e = e

pub high_choices_of : (choice : Choice) (node other : Node) (column : ℕ) (at : ℤ) → node.choices ≡ other.choices → (high_of choice node column at).choices ≡ (high_of choice other column at).choices
high_choices_of Plain node other column at e = e
high_choices_of (Open own) node other column at e = ap (λ c. slice_set c column On) e
high_choices_of Off node other column at e = e
high_choices_of On node other column at e = e

pub low_choices : (node other : Node) (column : ℕ) (at : ℤ) → node.choices ≡ other.choices → (low_node node column at).choices ≡ (low_node other column at).choices
low_choices node other column at e = low_choices_of (choice_at node.choices column) node other column at e ∙ ap (λ c. (low_of (choice_at c column) other column at).choices) e

pub high_choices : (node other : Node) (column : ℕ) (at : ℤ) → node.choices ≡ other.choices → (high_node node column at).choices ≡ (high_node other column at).choices
high_choices node other column at e = high_choices_of (choice_at node.choices column) node other column at e ∙ ap (λ c. (high_of (choice_at c column) other column at).choices) e

pub can_split_same : (integral : List Bool) (node other : Node) (column : ℕ) (at : ℤ) → node.box ≡ other.box → node.choices ≡ other.choices → CanSplit integral node column at → CanSplit integral other column at
can_split_same integral node other column at e f h = record {
  kind = subst (λ c. CanSplitAt (choice_at c column) (slice_get integral column)) f h.kind;
  low = subst (AllHaveWholes integral) (low_box node other column at e f) h.low;
  high = subst (AllHaveWholes integral) (high_box node other column at e f) h.high;
}

-- ---- a point of both

low_of_both : (inner outer : List Sides) (column : ℕ) (at : ℤ) (point : List ℚ) → IsInBox outer point → IsInBox (low_half inner column at) point → IsInBox (low_half outer column at) point
low_of_both [] [] column at point h k = h
low_of_both [] (o ∷ os) column at [] h k = absurd h
low_of_both [] (o ∷ os) column at (v ∷ vs) h k = absurd k
low_of_both (i ∷ is) [] column at point h k = h
low_of_both (i ∷ is) (o ∷ os) column at [] h k = absurd h
low_of_both (i ∷ is) (o ∷ os) zero at (v ∷ vs) h k = (record { above = h.0.above; below = k.0.below }, h.1)
low_of_both (i ∷ is) (o ∷ os) (suc column) at (v ∷ vs) h k = (h.0, low_of_both is os column at vs h.1 k.1)

high_of_both : (inner outer : List Sides) (column : ℕ) (at : ℤ) (point : List ℚ) → IsInBox outer point → IsInBox (high_half inner column at) point → IsInBox (high_half outer column at) point
high_of_both [] [] column at point h k = h
high_of_both [] (o ∷ os) column at [] h k = absurd h
high_of_both [] (o ∷ os) column at (v ∷ vs) h k = absurd k
high_of_both (i ∷ is) [] column at point h k = h
high_of_both (i ∷ is) (o ∷ os) column at [] h k = absurd h
high_of_both (i ∷ is) (o ∷ os) zero at (v ∷ vs) h k = (record { above = k.0.above; below = h.0.below }, h.1)
high_of_both (i ∷ is) (o ∷ os) (suc column) at (v ∷ vs) h k = (h.0, high_of_both is os column at vs h.1 k.1)

met_of_both : (inner outer : List Sides) (column : ℕ) (sides : Sides) (point : List ℚ) → IsInBox outer point → IsInBox (slice_set inner column (met (sides_at inner column) sides)) point → IsInBox (slice_set outer column (met (sides_at outer column) sides)) point
met_of_both [] [] column sides point h k = h
met_of_both [] (o ∷ os) column sides [] h k = absurd h
met_of_both [] (o ∷ os) column sides (v ∷ vs) h k = absurd k
met_of_both (i ∷ is) [] column sides point h k = h
met_of_both (i ∷ is) (o ∷ os) column sides [] h k = absurd h
met_of_both (i ∷ is) (o ∷ os) zero sides (v ∷ vs) h k = (between_met o sides v h.0 (between_both i sides v k.0).1, h.1)
met_of_both (i ∷ is) (o ∷ os) (suc column) sides (v ∷ vs) h k = (h.0, met_of_both is os column sides vs h.1 k.1)

low_by : (choice : Choice) (inner outer : Node) (column : ℕ) (at : ℤ) (point : List ℚ) → IsInBox outer.box point → IsInBox (low_of choice inner column at).box point → IsInBox (low_of choice outer column at).box point
low_by Plain inner outer column at point h k = low_of_both inner.box outer.box column at point h k
low_by (Open own) inner outer column at point h k = met_of_both inner.box outer.box column zero_sides point h k
low_by Off inner outer column at point h k = low_of_both inner.box outer.box column at point h k
low_by On inner outer column at point h k = low_of_both inner.box outer.box column at point h k

high_by : (choice : Choice) (inner outer : Node) (column : ℕ) (at : ℤ) (point : List ℚ) → IsInBox outer.box point → IsInBox (high_of choice inner column at).box point → IsInBox (high_of choice outer column at).box point
high_by Plain inner outer column at point h k = high_of_both inner.box outer.box column at point h k
high_by (Open own) inner outer column at point h k = met_of_both inner.box outer.box column own point h k
high_by Off inner outer column at point h k = high_of_both inner.box outer.box column at point h k
high_by On inner outer column at point h k = high_of_both inner.box outer.box column at point h k

pub low_node_of_both : (inner outer : Node) (column : ℕ) (at : ℤ) (point : List ℚ) → inner.choices ≡ outer.choices → IsInBox outer.box point → IsInBox (low_node inner column at).box point → IsInBox (low_node outer column at).box point
low_node_of_both inner outer column at point e h k = subst (λ c. IsInBox (low_of (choice_at c column) outer column at).box point) e (low_by (choice_at inner.choices column) inner outer column at point h k)

pub high_node_of_both : (inner outer : Node) (column : ℕ) (at : ℤ) (point : List ℚ) → inner.choices ≡ outer.choices → IsInBox outer.box point → IsInBox (high_node inner column at).box point → IsInBox (high_node outer column at).box point
high_node_of_both inner outer column at point e h k = subst (λ c. IsInBox (high_of (choice_at c column) outer column at).box point) e (high_by (choice_at inner.choices column) inner outer column at point h k)
