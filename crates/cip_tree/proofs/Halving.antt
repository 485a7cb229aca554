-- The halves of a node, as changes of a column, and the sides and the choice of a column, change after change.
use Rattle.std.proofs.Common.{inl, inr, ◌≡◌, ◌≢◌, ℕ, zero, suc, ◌<◌, ℤ, pos, ◌+ℤ◌, Bool, true, false, cond, List, [], ◌∷◌, Option, None, Some, refl, sym, ap, ◌∙◌, arith, set, subst, true≢false}
use Rattle.std.proofs.lemmas.List.{get_or-set_same, get_or-set_other, get_or_past, set_past, set-get_or}
use Rattle.std.proofs.lemmas.Bool.{cases_eq, cases_lt}
use Rattle.std.proofs.lemmas.Option.{same_Some}
use Rattle.cip_domain.specs.ChoiceParts.{is_plain}
use Rattle.std.specs.Prelude.{slice_get}
use Rattle.cip_rational.specs.Rational.{ℚ, integer, ◌<ℚ◌}
use Rattle.std.proofs.lemmas.Int.{ints}
use Rattle.std.specs.Prelude.{◌==◌, length}
use Rattle.cip_domain.proofs.Boxes.{region_same, length-narrowed}
use Rattle.cip_domain.proofs.OneSide.{weak_changes}
use Rattle.cip_rational.proofs.Rational.Order.{≤ℚ_trans, <ℚ_of_lt_of_le, <ℚ_of_le_of_lt, le_test_of_lt}
use Rattle.cip_rational.proofs.Rational.Rounding.{integer_lt}
use Rattle.cip_problem.specs.Program.{Sides, Choice, Plain, Open, Off, On}
use Rattle.cip_problem.specs.Box.{sides_at, low_inside, high_inside}
use Rattle.cip_problem.specs.Choices.{choice_at, is_open, met, zero_sides}
use Rattle.cip_problem.specs.Wholes.{HasWhole, AllHaveWholes}
use Rattle.cip_problem.specs.Log.{Node, low_of, high_of, low_node, high_node, CanSplitAt, CanSplit}
use Rattle.cip_domain.specs.Side.TheVariants.{Low, High}
use Rattle.cip_domain.specs.Changes.{Region, Change, with_side, with_column, choice_after, side_change, tightened, narrowed}
use Rattle.cip_domain.specs.Domain.{left_sides}
use Rattle.cip_domain.specs.Halves.{CanHalve, low_sides, high_sides}
use Rattle.cip_tree.specs.Nodes.{region_in}

-- ---- the halves of a whole column

below_next : (at : ℤ) → integer at <ℚ integer (at +ℤ pos 1)
below_next at = integer_lt at (at +ℤ pos 1) (omega (arith, ints))

weak_high : (high : Option ℚ) (at : ℤ) → HasWhole (record { low = Some (integer (at +ℤ pos 1)); high = high }) → high_inside high (Some (integer at)) ≡ false
weak_high None at h = refl
weak_high (Some side) at h = le_test_of_lt (<ℚ_of_lt_of_le (below_next at) (≤ℚ_trans h.between.above h.between.below))

weak_low : (low : Option ℚ) (at : ℤ) → HasWhole (record { low = low; high = Some (integer at) }) → low_inside low (Some (integer (at +ℤ pos 1))) ≡ false
weak_low None at h = refl
weak_low (Some side) at h = le_test_of_lt (<ℚ_of_le_of_lt (≤ℚ_trans h.between.above h.between.below) (below_next at))

-- a region with other sides at a column
same_choices : (region : Region) (column : ℕ) (sides : Sides) → with_column region column sides (choice_at region.choices column) ≡ (let r : Region = record { box = set region.box column sides; choices = region.choices } in r)
same_choices region column sides = region_same (with_column region column sides (choice_at region.choices column)) (record { box = set region.box column sides; choices = region.choices }) refl (set-get_or region.choices column Plain)

module _ (node : Node) (column : ℕ) (at : ℤ) where
  module _ (plain : choice_at node.choices column ≡ Plain) (h : CanHalve (sides_at node.box column) at) where
    pub low_is_half : tightened (region_in node) (side_change column High (integer at)) ≡ region_in (low_node node column at)
    low_is_half =
        sym (weak_changes (region_in node) column High (integer at) (weak_high (sides_at node.box column).high at h.high))
        ∙ same_choices (region_in node) column (with_side (sides_at node.box column) High (Some (integer at)))
        ∙ sym (ap (λ c. region_in (low_of c node column at)) plain)

    pub high_is_half : tightened (region_in node) (side_change column Low (integer (at +ℤ pos 1))) ≡ region_in (high_node node column at)
    high_is_half =
        sym (weak_changes (region_in node) column Low (integer (at +ℤ pos 1)) (weak_low (sides_at node.box column).low at h.low))
        ∙ same_choices (region_in node) column (with_side (sides_at node.box column) Low (Some (integer (at +ℤ pos 1))))
        ∙ sym (ap (λ c. region_in (high_of c node column at)) plain)

  -- ---- and of one whose choice is open

  module _ (own : Sides) (open_ : choice_at node.choices column ≡ Open own) where
    pub off_is_half : tightened (region_in node) (record { column = column; sides = left_sides (Open own) false; made = Some false }) ≡ region_in (low_node node column at)
    off_is_half =
        ap (λ c. with_column (region_in node) column (met (sides_at node.box column) zero_sides) (choice_after c (Some false))) open_
        ∙ sym (ap (λ c. region_in (low_of c node column at)) open_)

    pub on_is_half : tightened (region_in node) (record { column = column; sides = left_sides (Open own) true; made = Some true }) ≡ region_in (high_node node column at)
    on_is_half =
        ap (λ c. with_column (region_in node) column (met (sides_at node.box column) own) (choice_after c (Some true))) open_
        ∙ sym (ap (λ c. region_in (high_of c node column at)) open_)

-- other columns keep their whole values
wholes_with : (integral : List Bool) (box : List Sides) (column : ℕ) (sides : Sides) → AllHaveWholes integral box → HasWhole sides → AllHaveWholes integral (set box column sides)
wholes_with [] [] column sides h k = h
wholes_with [] (s ∷ ss) column sides h k = absurd h
wholes_with (w ∷ ws) [] column sides h k = absurd h
wholes_with (w ∷ ws) (s ∷ ss) zero sides h k = ((λ e. k), h.1)
wholes_with (w ∷ ws) (s ∷ ss) (suc column) sides h k = (h.0, wholes_with ws ss column sides h.1 k)

-- so they do where the column isn't whole
wholes_past : (integral : List Bool) (box : List Sides) (column : ℕ) (sides : Sides) → slice_get integral column ≡ Some false → AllHaveWholes integral box → AllHaveWholes integral (set box column sides)
wholes_past [] [] column sides e h = h
wholes_past [] (s ∷ ss) column sides e h = absurd h
wholes_past (w ∷ ws) [] column sides e h = absurd h
wholes_past (w ∷ ws) (s ∷ ss) zero sides e h = ((λ f. absurd (true≢false (sym f ∙ same_Some w false e))), h.1)
wholes_past (w ∷ ws) (s ∷ ss) (suc column) sides e h = (h.0, wholes_past ws ss column sides e h.1)

module _ (integral : List Bool) (node : Node) (column : ℕ) (at : ℤ) (wholes : AllHaveWholes integral node.box) where
  pub can_split : slice_get integral column ≡ Some true → choice_at node.choices column ≡ Plain → CanHalve (sides_at node.box column) at → CanSplit integral node column at
  can_split whole plain k = record {
    kind = subst (λ c. CanSplitAt c (slice_get integral column)) (sym plain) whole;
    low = subst (λ c. AllHaveWholes integral (low_of c node column at).box) (sym plain) (wholes_with integral node.box column (low_sides (sides_at node.box column) at) wholes k.low);
    high = subst (λ c. AllHaveWholes integral (high_of c node column at).box) (sym plain) (wholes_with integral node.box column (high_sides (sides_at node.box column) at) wholes k.high);
  }

  pub can_choose : (own : Sides) → slice_get integral column ≡ Some false → choice_at node.choices column ≡ Open own → CanSplit integral node column at
  can_choose own whole open_ = record {
    kind = subst (λ c. CanSplitAt c (slice_get integral column)) (sym open_) whole;
    low = subst (λ c. AllHaveWholes integral (low_of c node column at).box) (sym open_) (wholes_past integral node.box column _ whole wholes);
    high = subst (λ c. AllHaveWholes integral (high_of c node column at).box) (sym open_) (wholes_past integral node.box column _ whole wholes);
  }

-- ---- the choice of one column, change after change

alike : (a b : ℕ) → a ≡ b → (a == b) ≡ true
alike a b e = grind arith

pub unlike : (a b : ℕ) → a ≢ b → (a == b) ≡ false
unlike a b d = grind arith

-- the choice of a column after a change, which may be of another one
abbrev pub changed_choice : ℕ → Choice → Change → Choice
changed_choice column choice change = cond (change.column == column) (choice_after choice change.made) choice

plain_after : (made : Option Bool) → choice_after Plain made ≡ Plain
plain_after None = refl
plain_after (Some on) = refl

-- the choice at a column that was changed; past the end all stay plain
choice_here : (choices : List Choice) (column : ℕ) (made : Option Bool) → choice_at (set choices column (choice_after (choice_at choices column) made)) column ≡ choice_after (choice_at choices column) made
choice_here choices column made = elim (cases_lt column (length choices)) [
  | inl l ↦ get_or-set_same choices column (choice_after (choice_at choices column) made) Plain l
  | inr l ↦
      ap (λ t. choice_at t column) (set_past choices column (choice_after (choice_at choices column) made) l)
      ∙ get_or_past choices column Plain l
      ∙ sym (ap (λ c. choice_after c made) (get_or_past choices column Plain l) ∙ plain_after made)
]

pub choice_after_change : (region : Region) (column : ℕ) (change : Change) → choice_at (tightened region change).choices column ≡ changed_choice column (choice_at region.choices column) change
choice_after_change region column change = elim (cases_eq change.column column) [
  | inl same ↦
      ap (λ k. choice_at (set region.choices k (choice_after (choice_at region.choices k) change.made)) column) same
      ∙ choice_here region.choices column change.made
      ∙ sym (ap (λ b. cond b (choice_after (choice_at region.choices column) change.made) (choice_at region.choices column)) (alike change.column column same))
  | inr apart ↦
      get_or-set_other region.choices change.column column (choice_after (choice_at region.choices change.column) change.made) Plain (λ e. apart (sym e))
      ∙ sym (ap (λ b. cond b (choice_after (choice_at region.choices column) change.made) (choice_at region.choices column)) (unlike change.column column apart))
]

still_plain : (same : Bool) (made : Option Bool) → cond same (choice_after Plain made) Plain ≡ Plain
still_plain true made = plain_after made
still_plain false made = refl

-- a plain column stays plain
pub plain_stays : (region : Region) (changes : List Change) (column : ℕ) → choice_at region.choices column ≡ Plain → choice_at (narrowed region changes).choices column ≡ Plain
plain_stays region [] column e = e
plain_stays region (c ∷ cs) column e =
    choice_after_change (narrowed region cs) column c
    ∙ ap (λ t. changed_choice column t c) (plain_stays region cs column e) ∙ still_plain (c.column == column) c.made

pub plain_of : (choice : Choice) → is_plain choice ≡ true → choice ≡ Plain
plain_of Plain e = refl
plain_of (Open own) e = absurd (true≢false (sym e))
plain_of Off e = absurd (true≢false (sym e))
plain_of On e = absurd (true≢false (sym e))

pub open_own : (choice : Choice) → is_open choice ≡ true → (own : Sides) × (choice ≡ Open own)
open_own Plain e = absurd (true≢false (sym e))
open_own (Open own) e = (own, refl)
open_own Off e = absurd (true≢false (sym e))
open_own On e = absurd (true≢false (sym e))

zip_length : (integral : List Bool) (box : List Sides) → AllHaveWholes integral box → length integral ≡ length box
zip_length [] [] h = refl
zip_length [] (s ∷ ss) h = absurd h
zip_length (w ∷ ws) [] h = absurd h
zip_length (w ∷ ws) (s ∷ ss) h = omega (arith, zip_length ws ss h.1)

-- a column of a box in which each whole one has a whole value is one of the root's box
pub long_box : (integral : List Bool) (root : Region) (changes : List Change) (column : ℕ) → AllHaveWholes integral (narrowed root changes).box → column < length integral → column < length root.box
long_box integral root changes column h l =
    omega (arith, l, zip_length integral (narrowed root changes).box h, length-narrowed root changes)
