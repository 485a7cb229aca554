-- The value that a column goes to.
use Rattle.std.proofs.Common.{◌≡◌, ℕ, ◌<◌, Bool, true, false, List, length, Option, None, Some, IfSome, slice_get, refl, sym, ap, ◌∙◌, subst}
use Rattle.std.proofs.lemmas.Bool.{false≢true}
use Rattle.std.proofs.lemmas.Option.{none-some, same_Some}
use Rattle.cip_rational.specs.Rational.{ℚ, zeroℚ, negate, ◌≤ℚ◌, ◌<ℚ◌, IsWhole, integer, ceil, floor}
use Rattle.cip_rational.proofs.Rational.Order.{le_of_not_lt}
use Rattle.cip_rational.proofs.Rational.Monotone.{negate_mono}
use Rattle.cip_rational.proofs.Rational.Whole.{IsWhole-integer}
use Rattle.cip_problem.specs.Choices.{choice_at, is_open}
use Rattle.cip_problem.specs.Program.{Sides, Program}
use Rattle.cip_problem.specs.Activity.{value_at}
use Rattle.cip_problem.specs.Box.{Between, sides_at, sides_inside}
use Rattle.cip_problem.specs.Cuts.{rounded_low, rounded_high}
use Rattle.cip_problem.proofs.Rounding.{sides_rounded}
use Rattle.cip_search.specs.Moving.{fixed_sides, CanTake}
use Rattle.cip_presolve.specs.FreeColumns.{turned}
use Rattle.cip_presolve.specs.Moves.{least_value, greatest_value, CanBe, MovesTo}

-- ---- the value

low_of : (low : Option ℚ) (value v : ℚ) → low ≡ Some value → IfSome low (λ side. side ≤ℚ v) → value ≤ℚ v
low_of low value v e h = subst (λ o. IfSome o (λ side. side ≤ℚ v)) e h

least_is : (whole : Bool) (sides : Sides) (value v : ℚ) → least_value whole sides.low ≡ Some value → (whole ≡ true → IsWhole v) → Between sides.low sides.high v → value ≤ℚ v
least_is true sides value v e w b = low_of (rounded_low sides.low) value v e (sides_rounded sides v (w refl) b).above
least_is false sides value v e w b = low_of sides.low value v e b.above

high_of : (high : Option ℚ) (value v : ℚ) → high ≡ Some value → IfSome high (λ side. v ≤ℚ side) → v ≤ℚ value
high_of high value v e h = subst (λ o. IfSome o (λ side. v ≤ℚ side)) e h

greatest_is : (whole : Bool) (sides : Sides) (value v : ℚ) → greatest_value whole sides.high ≡ Some value → (whole ≡ true → IsWhole v) → Between sides.low sides.high v → v ≤ℚ value
greatest_is true sides value v e w b = high_of (rounded_high sides.high) value v e (sides_rounded sides v (w refl) b).below
greatest_is false sides value v e w b = high_of sides.high value v e b.below

least_whole : (whole : Bool) (low : Option ℚ) (value : ℚ) → least_value whole low ≡ Some value → whole ≡ true → IsWhole value
least_whole false low value e w = absurd (false≢true w)
least_whole true None value e w = absurd (none-some value e)
least_whole true (Some low) value e w = subst IsWhole (same_Some (integer (ceil low)) value e) (IsWhole-integer (ceil low))

greatest_whole : (whole : Bool) (high : Option ℚ) (value : ℚ) → greatest_value whole high ≡ Some value → whole ≡ true → IsWhole value
greatest_whole false high value e w = absurd (false≢true w)
greatest_whole true None value e w = absurd (none-some value e)
greatest_whole true (Some high) value e w = subst IsWhole (same_Some (integer (floor high)) value e) (IsWhole-integer (floor high))

-- ---- where a column goes

-- a column that isn't semi-continuous may take sides: they lie inside its own
pub record MayTake (program : Program) (column : ℕ) (sides : Sides) : Type 0 where
  pub plain : is_open (choice_at program.choices column) ≡ false
  pub inside : sides_inside sides (sides_at program.bounds column) ≡ true

module _ (program : Program) (column : ℕ) (whole : Bool) (value : ℚ) (free : List Bool) (inside : column < length program.bounds) (is : slice_get program.integral column ≡ Some whole) (take : MayTake program column (fixed_sides value)) (f : slice_get free column ≡ Some true) where
  whole_if : (slice_get program.integral column ≡ Some true) → whole ≡ true
  whole_if h = same_Some whole true (sym is ∙ h)

  whole_be : (other : ℚ) → CanBe program column other → whole ≡ true → IsWhole other
  whole_be other c e = c.whole (is ∙ ap Some e)

  takes : (whole ≡ true → IsWhole value) → CanTake program column value
  takes w = record { within = inside; plain = take.plain; whole = λ h. w (whole_if h); inside = take.inside }

  pub fall_is : least_value whole (sides_at program.bounds column).low ≡ Some value → ¬ (value_at program.costs column <ℚ zeroℚ) → MovesTo false free program column value
  fall_is e cost = record {
    lets = f;
    takes = takes (least_whole whole (sides_at program.bounds column).low value e);
    cost = le_of_not_lt (value_at program.costs column) zeroℚ cost;
    last = λ other c. least_is whole (sides_at program.bounds column) value other e (whole_be other c) c.between;
  }

  pub rise_is : greatest_value whole (sides_at program.bounds column).high ≡ Some value → ¬ (negate (value_at program.costs column) <ℚ zeroℚ) → MovesTo true free program column value
  rise_is e cost = record {
    lets = f;
    takes = takes (greatest_whole whole (sides_at program.bounds column).high value e);
    cost = le_of_not_lt (negate (value_at program.costs column)) zeroℚ cost;
    last = λ other c. negate_mono (greatest_is whole (sides_at program.bounds column) value other e (whole_be other c) c.between);
  }

  pub moves_is : (rising : Bool) → (rising ≡ false → least_value whole (sides_at program.bounds column).low ≡ Some value) → (rising ≡ true → greatest_value whole (sides_at program.bounds column).high ≡ Some value) → ¬ (turned rising (value_at program.costs column) <ℚ zeroℚ) → MovesTo rising free program column value
  moves_is true fallen risen cost = rise_is (risen refl) cost
  moves_is false fallen risen cost = fall_is (fallen refl) cost
