-- Sides that are met: those that change nothing, and one that gets a value.
use Rattle.std.proofs.Common.{◌≡◌, ℕ, Bool, true, false, Option, None, Some, refl, sym, ap, ◌∙◌, set}
use Rattle.std.proofs.lemmas.Bool.{and_parts}
use Rattle.std.proofs.lemmas.List.{set-get_or}
use Rattle.cip_rational.specs.Rational.{ℚ}
use Rattle.cip_rational.proofs.Rational.Order.{≤ℚ_of_lt, le_of_test, lt_of_le_test}
use Rattle.cip_rational.proofs.Rational.Extremes.{minimum_left, minimum_right, maximum_left, maximum_right}
use Rattle.cip_problem.specs.Program.{Sides, Choice, Plain, Open, Off, On}
use Rattle.cip_problem.specs.Box.{no_sides, sides_at, low_inside, high_inside, sides_inside}
use Rattle.cip_problem.specs.Choices.{choice_at, greater, lesser, met}
use Rattle.cip_lin.specs.declared.sides.Side.{Side}
use Rattle.cip_lin.specs.declared.sides.Side.TheVariants.{Low, High}
use Rattle.cip_domain.specs.Changes.{Region, Change, choice_after, with_side, side_change, is_as_strong, tightened, with_column}
use Rattle.cip_domain.specs.Domain.{is_settled}
use Rattle.cip_domain.proofs.Boxes.{region_same}

pub greater_none : (own : Option ℚ) → greater own None ≡ own
greater_none None = refl
greater_none (Some own) = refl

pub lesser_none : (own : Option ℚ) → lesser own None ≡ own
lesser_none None = refl
lesser_none (Some own) = refl

inside_low : (own other : Option ℚ) → low_inside own other ≡ true → greater own other ≡ own
inside_low own None e = greater_none own
inside_low None (Some other) e = absurd (let f : false ≡ true = e in cc)
inside_low (Some own) (Some other) e = ap Some (maximum_left (le_of_test e))

inside_high : (own other : Option ℚ) → high_inside own other ≡ true → lesser own other ≡ own
inside_high own None e = lesser_none own
inside_high None (Some other) e = absurd (let f : false ≡ true = e in cc)
inside_high (Some own) (Some other) e = ap Some (minimum_left (le_of_test e))

weak_low : (own : Option ℚ) (value : ℚ) → low_inside own (Some value) ≡ false → greater own (Some value) ≡ Some value
weak_low None value e = refl
weak_low (Some own) value e = ap Some (maximum_right (≤ℚ_of_lt (lt_of_le_test e)))

weak_high : (own : Option ℚ) (value : ℚ) → high_inside own (Some value) ≡ false → lesser own (Some value) ≡ Some value
weak_high None value e = refl
weak_high (Some own) value e = ap Some (minimum_right (≤ℚ_of_lt (lt_of_le_test e)))

sides_same : (a b c d : Option ℚ) → a ≡ c → b ≡ d → let s : Sides = record { low = a; high = b } in let t : Sides = record { low = c; high = d } in s ≡ t
sides_same a b c d e f = cc

-- sides met with a value for one that is as strong are as they were
pub strong_met : (sides : Sides) (side : Side) (value : ℚ) → is_as_strong sides side value ≡ true → met sides (with_side no_sides side (Some value)) ≡ sides
strong_met sides Low value e = sides_same _ _ _ _ (inside_low sides.low (Some value) e) (lesser_none sides.high)
strong_met sides High value e = sides_same _ _ _ _ (greater_none sides.low) (inside_high sides.high (Some value) e)

-- and else they have that value
pub weak_met : (sides : Sides) (side : Side) (value : ℚ) → is_as_strong sides side value ≡ false → met sides (with_side no_sides side (Some value)) ≡ with_side sides side (Some value)
weak_met sides Low value e = sides_same _ _ _ _ (weak_low sides.low value e) (lesser_none sides.high)
weak_met sides High value e = sides_same _ _ _ _ (greater_none sides.low) (weak_high sides.high value e)

-- so it is with regions
pub strong_stays : (region : Region) (column : ℕ) (side : Side) (value : ℚ) → is_as_strong (sides_at region.box column) side value ≡ true → region ≡ tightened region (side_change column side value)
strong_stays region column side value e =
    sym (region_same (tightened region (side_change column side value)) region
    (ap (set region.box column) (strong_met (sides_at region.box column) side value e) ∙ set-get_or region.box column no_sides)
    (set-get_or region.choices column Plain))

pub weak_changes : (region : Region) (column : ℕ) (side : Side) (value : ℚ) → is_as_strong (sides_at region.box column) side value ≡ false → with_column region column (with_side (sides_at region.box column) side (Some value)) (choice_at region.choices column) ≡ tightened region (side_change column side value)
weak_changes region column side value e =
    region_same _ (tightened region (side_change column side value))
    (ap (set region.box column) (sym (weak_met (sides_at region.box column) side value e)))
    refl

-- ---- changes that change nothing

inside_met : (own other : Sides) → sides_inside own other ≡ true → met own other ≡ own
inside_met own other e =
    let parts = and_parts (low_inside own.low other.low) (high_inside own.high other.high) e in
    sides_same _ _ _ _ (inside_low own.low other.low parts.0) (inside_high own.high other.high parts.1)

pub settled_choice : (choice : Choice) (made : Option Bool) → is_settled choice made ≡ true → choice_after choice made ≡ choice
settled_choice choice None e = refl
settled_choice Plain (Some on) e = refl
settled_choice (Open own) (Some on) e = absurd (let f : false ≡ true = e in cc)
settled_choice Off (Some on) e = refl
settled_choice On (Some true) e = refl
settled_choice On (Some false) e = absurd (let f : false ≡ true = e in cc)

-- a change that is weaker and settled leaves a region as it is
pub settled_stays : (region : Region) (change : Change) → sides_inside (sides_at region.box change.column) change.sides ≡ true → is_settled (choice_at region.choices change.column) change.made ≡ true → region ≡ tightened region change
settled_stays region change e f =
    let own = sides_at region.box change.column in
    sym (region_same (tightened region change) region
    (ap (set region.box change.column) (inside_met own change.sides e) ∙ set-get_or region.box change.column no_sides)
    (ap (set region.choices change.column) (settled_choice (choice_at region.choices change.column) change.made f) ∙ set-get_or region.choices change.column Plain))
