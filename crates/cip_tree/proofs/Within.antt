-- Boxes within boxes, and the halves of nodes.
use Rattle.std.proofs.Common.{◌≡◌, ◌⊎◌, inl, inr, ℕ, zero, suc, ℤ, Bool, List, [], ◌∷◌, ◌++◌, set, map, None, IfSome, refl, sym, ap, ◌∙◌, subst}
use Rattle.std.proofs.lemmas.List.{set-get_or, reverse-append}
use Rattle.std.specs.Prelude.{slice_get}
use Rattle.cip_rational.specs.Rational.{ℚ, integer, ◌≤ℚ◌, IsWhole}
use Rattle.cip_problem.specs.Program.{Sides, Choice, Plain, Open, Off, On}
use Rattle.cip_problem.specs.Box.{sides_at, IsInBox}
use Rattle.cip_problem.specs.Activity.{value_at}
use Rattle.cip_problem.specs.Choices.{choice_at, met, zero_sides}
use Rattle.cip_problem.specs.Wholes.{AllHaveWholes}
use Rattle.cip_problem.specs.Log.{Node, low_half, high_half, low_of, high_of, low_node, high_node, CanSplitAt, CanSplit}
use Rattle.cip_problem.proofs.Log.Halves.{below_or_above, open_halves_cover}
use Rattle.cip_problem.proofs.Choices.Meeting.{between_both, between_met}
use Rattle.cip_problem.proofs.Log.SameHalves.{high_choices_of, low_choices_of}
use Rattle.cip_domain.specs.Changes.{Region, Change, tightened, narrowed}
use Rattle.cip_domain.proofs.Boxes.{narrowed-append}
use Rattle.cip_tree.specs.declared.notes.Note.{Note}
use Rattle.cip_tree.specs.Notes.{noted_change, noted}
use Rattle.cip_tree.specs.Searched.{IsValueAt, HalvesHold}
use Rattle.cip_tree.specs.Tracked.{AreAsStrong, IsWithin}

pub within_itself : (box : List Sides) → IsWithin box box
within_itself [] = tt
within_itself (s ∷ ss) = (record { low = λ v h. h; high = λ v h. h }, within_itself ss)

within_trans : (a b c : List Sides) → IsWithin a b → IsWithin b c → IsWithin a c
within_trans [] [] c h k = k
within_trans [] (t ∷ ts) c h k = absurd h
within_trans (s ∷ ss) [] c h k = absurd h
within_trans (s ∷ ss) (t ∷ ts) [] h k = absurd k
within_trans (s ∷ ss) (t ∷ ts) (u ∷ us) h k =
    (record { low = λ v l. k.0.low v (h.0.low v l); high = λ v l. k.0.high v (h.0.high v l) }, within_trans ss ts us h.1 k.1)

-- a wider box holds the points
pub in_wider : (box outer : List Sides) (point : List ℚ) → IsWithin box outer → IsInBox box point → IsInBox outer point
in_wider [] [] point h k = k
in_wider [] (t ∷ ts) point h k = absurd h
in_wider (s ∷ ss) [] point h k = absurd h
in_wider (s ∷ ss) (t ∷ ts) [] h k = absurd k
in_wider (s ∷ ss) (t ∷ ts) (v ∷ vs) h k =
    (record { above = h.0.low v k.0.above; below = h.0.high v k.0.below }, in_wider ss ts vs h.1 k.1)

-- ---- sides that are met

abbrev low_alone : Sides → Sides
low_alone sides = record { low = sides.low; high = None }

abbrev high_alone : Sides → Sides
high_alone sides = record { low = None; high = sides.high }

-- what both sides let through, each lets through
low_both : (sides others : Sides) (v : ℚ) → IfSome (met sides others).low (λ side. side ≤ℚ v) → IfSome sides.low (λ side. side ≤ℚ v) × IfSome others.low (λ side. side ≤ℚ v)
low_both sides others v h =
    let k = between_both (low_alone sides) (low_alone others) v (record { above = h; below = tt }) in (k.0.above, k.1.above)

high_both : (sides others : Sides) (v : ℚ) → IfSome (met sides others).high (λ side. v ≤ℚ side) → IfSome sides.high (λ side. v ≤ℚ side) × IfSome others.high (λ side. v ≤ℚ side)
high_both sides others v h =
    let k = between_both (high_alone sides) (high_alone others) v (record { above = tt; below = h }) in (k.0.below, k.1.below)

-- met with the same, they stay as strong
met_strong : (sides other more : Sides) → AreAsStrong sides other → AreAsStrong (met sides more) (met other more)
met_strong sides other more h = record {
  low = λ v k. let b = low_both sides more v k in (between_met (low_alone other) (low_alone more) v (record { above = h.low v b.0; below = tt }) (record { above = b.1; below = tt })).above;
  high = λ v k. let b = high_both sides more v k in (between_met (high_alone other) (high_alone more) v (record { above = tt; below = h.high v b.0 }) (record { above = tt; below = b.1 })).below;
}

-- ---- changes

within_met : (box : List Sides) (column : ℕ) (sides : Sides) → IsWithin (set box column (met (sides_at box column) sides)) box
within_met [] column sides = tt
within_met (s ∷ ss) zero sides =
    (record { low = λ v h. (low_both s sides v h).0; high = λ v h. (high_both s sides v h).0 }, within_itself ss)
within_met (s ∷ ss) (suc column) sides = (record { low = λ v h. h; high = λ v h. h }, within_met ss column sides)

-- changes make a box no wider
pub within_changes : (region : Region) (changes : List Change) → IsWithin (narrowed region changes).box region.box
within_changes region [] = within_itself region.box
within_changes region (c ∷ cs) =
    within_trans (tightened (narrowed region cs) c).box (narrowed region cs).box region.box (within_met (narrowed region cs).box c.column c.sides) (within_changes region cs)

pub within_later : (region : Region) (outer : List Sides) (changes more : List Change) → IsWithin (narrowed region more).box outer → IsWithin (narrowed region (changes ++ more)).box outer
within_later region outer changes more h =
    within_trans _ (narrowed region more).box outer (subst (λ (r : Region). IsWithin r.box (narrowed region more).box) (sym (narrowed-append region changes more)) (within_changes (narrowed region more) changes)) h

quiet_reverse : (region : Region) (notes : List Note) → (narrowed region (noted notes)).choices ≡ region.choices
quiet_reverse region [] = refl
quiet_reverse region (n ∷ ns) =
    ap (λ t. (narrowed region t).choices) (reverse-append (noted_change n ∷ []) (map noted_change ns))
    ∙ ap (λ (r : Region). r.choices) (narrowed-append region (noted ns) (noted_change n ∷ []))
    ∙ quiet_reverse (tightened region (noted_change n)) ns ∙ set-get_or region.choices n.col Plain

pub noted_choices : (region : Region) (notes : List Note) (changes : List Change) → (narrowed region (noted notes ++ changes)).choices ≡ (narrowed region changes).choices
noted_choices region notes changes =
    ap (λ (r : Region). r.choices) (narrowed-append region (noted notes) changes) ∙ quiet_reverse (narrowed region changes) notes

-- ---- halves

within_at : (box outer : List Sides) (column : ℕ) → IsWithin box outer → AreAsStrong (sides_at box column) (sides_at outer column)
within_at [] [] column h = record { low = λ v k. k; high = λ v k. k }
within_at [] (t ∷ ts) column h = absurd h
within_at (s ∷ ss) [] column h = absurd h
within_at (s ∷ ss) (t ∷ ts) zero h = h.0
within_at (s ∷ ss) (t ∷ ts) (suc column) h = within_at ss ts column h.1

within_set : (box outer : List Sides) (column : ℕ) (sides other : Sides) → IsWithin box outer → AreAsStrong sides other → IsWithin (set box column sides) (set outer column other)
within_set [] [] column sides other h k = h
within_set [] (t ∷ ts) column sides other h k = absurd h
within_set (s ∷ ss) [] column sides other h k = absurd h
within_set (s ∷ ss) (t ∷ ts) zero sides other h k = (k, h.1)
within_set (s ∷ ss) (t ∷ ts) (suc column) sides other h k = (h.0, within_set ss ts column sides other h.1 k)

low_half_within : (box outer : List Sides) (column : ℕ) (at : ℤ) → IsWithin box outer → IsWithin (low_half box column at) (low_half outer column at)
low_half_within box outer column at h = within_set box outer column _ _ h (record { low = (within_at box outer column h).low; high = λ v k. k })

high_half_within : (box outer : List Sides) (column : ℕ) (at : ℤ) → IsWithin box outer → IsWithin (high_half box column at) (high_half outer column at)
high_half_within box outer column at h = within_set box outer column _ _ h (record { low = λ v k. k; high = (within_at box outer column h).high })

met_within_at : (box outer : List Sides) (column : ℕ) (sides : Sides) → IsWithin box outer → IsWithin (set box column (met (sides_at box column) sides)) (set outer column (met (sides_at outer column) sides))
met_within_at box outer column sides h =
    within_set box outer column _ _ h (met_strong (sides_at box column) (sides_at outer column) sides (within_at box outer column h))

low_within_of : (choice : Choice) (node outer : Node) (column : ℕ) (at : ℤ) → IsWithin node.box outer.box → IsWithin (low_of choice node column at).box (low_of choice outer column at).box
low_within_of Plain node outer column at h = low_half_within node.box outer.box column at h
low_within_of (Open own) node outer column at h = met_within_at node.box outer.box column zero_sides h
low_within_of Off node outer column at h = low_half_within node.box outer.box column at h
low_within_of On node outer column at h = low_half_within node.box outer.box column at h

high_within_of : (choice : Choice) (node outer : Node) (column : ℕ) (at : ℤ) → IsWithin node.box outer.box → IsWithin (high_of choice node column at).box (high_of choice outer column at).box
high_within_of Plain node outer column at h = high_half_within node.box outer.box column at h
high_within_of (Open own) node outer column at h = met_within_at node.box outer.box column own h
high_within_of Off node outer column at h = high_half_within node.box outer.box column at h
high_within_of On node outer column at h = high_half_within node.box outer.box column at h

wholes_within : (integral : List Bool) (box outer : List Sides) → IsWithin box outer → AllHaveWholes integral box → AllHaveWholes integral outer
wholes_within [] [] [] h k = k
wholes_within [] [] (t ∷ ts) h k = absurd h
wholes_within [] (s ∷ ss) outer h k = absurd k
wholes_within (w ∷ ws) [] outer h k = absurd k
wholes_within (w ∷ ws) (s ∷ ss) [] h k = absurd h
wholes_within (w ∷ ws) (s ∷ ss) (t ∷ ts) h k = (
  (λ e. let x = k.0 e in record { number = x.number; between = record { above = h.0.low (integer x.number) x.between.above; below = h.0.high (integer x.number) x.between.below } }),
  wholes_within ws ss ts h.1 k.1,
)

-- a node in another's box, with the same choices
module _ (node outer : Node) (column : ℕ) (at : ℤ) (h : IsWithin node.box outer.box) (e : node.choices ≡ outer.choices) where
  same_choice : choice_at node.choices column ≡ choice_at outer.choices column
  same_choice = ap (λ t. choice_at t column) e

  pub within_low : IsWithin (low_node node column at).box (low_node outer column at).box
  within_low = subst (λ c. IsWithin (low_node node column at).box (low_of c outer column at).box) same_choice (low_within_of (choice_at node.choices column) node outer column at h)

  pub within_high : IsWithin (high_node node column at).box (high_node outer column at).box
  within_high = subst (λ c. IsWithin (high_node node column at).box (high_of c outer column at).box) same_choice (high_within_of (choice_at node.choices column) node outer column at h)

  pub low_choices : (low_node node column at).choices ≡ (low_node outer column at).choices
  low_choices = low_choices_of (choice_at node.choices column) node outer column at e ∙ ap (λ c. (low_of c outer column at).choices) same_choice

  pub high_choices : (high_node node column at).choices ≡ (high_node outer column at).choices
  high_choices = high_choices_of (choice_at node.choices column) node outer column at e ∙ ap (λ c. (high_of c outer column at).choices) same_choice

  -- what can be split there can be split in the other
  pub split_within : (integral : List Bool) → CanSplit integral node column at → CanSplit integral outer column at
  split_within integral k = record {
    kind = subst (λ c. CanSplitAt c (slice_get integral column)) same_choice k.kind;
    low = wholes_within integral (low_node node column at).box (low_node outer column at).box within_low k.low;
    high = wholes_within integral (high_node node column at).box (high_node outer column at).box within_high k.high;
  }

in_halves : (box : List Sides) (column : ℕ) (at : ℤ) (point : List ℚ) → IsInBox box point → IsWhole (value_at point column) → IsInBox (low_half box column at) point ⊎ IsInBox (high_half box column at) point
in_halves [] column at point h w = inl h
in_halves (s ∷ ss) column at [] h w = absurd h
in_halves (s ∷ ss) zero at (v ∷ vs) h w = elim (below_or_above v at w) [
  | inl l ↦ inl (record { above = h.0.above; below = l }, h.1)
  | inr l ↦ inr (record { above = l; below = h.0.below }, h.1)
]
in_halves (s ∷ ss) (suc column) at (v ∷ vs) h w = elim (in_halves ss column at vs h.1 w) [
  | inl l ↦ inl (h.0, l)
  | inr l ↦ inr (h.0, l)
]

hold_of : (choice : Choice) (node : Node) (column : ℕ) (at : ℤ) (point : List ℚ) → IsInBox node.box point → IsValueAt choice (value_at point column) → IsInBox (low_of choice node column at).box point ⊎ IsInBox (high_of choice node column at).box point
hold_of Plain node column at point h w = in_halves node.box column at point h w
hold_of (Open own) node column at point h w = open_halves_cover node column own at point h w
hold_of Off node column at point h w = absurd w
hold_of On node column at point h w = absurd w

pub halves_hold : (node : Node) (column : ℕ) (at : ℤ) → HalvesHold node column at
halves_hold node column at = λ point h w. hold_of (choice_at node.choices column) node column at point h w
