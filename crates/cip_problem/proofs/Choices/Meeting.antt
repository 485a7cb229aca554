-- Sides that are met, and boxes with other sides at one column.
use Rattle.std.proofs.Common.{◌≡◌, ℕ, zero, suc, Bool, true, false, List, [], ◌∷◌, Option, None, Some, IfSome, refl, sym, slice_set}
use Rattle.std.specs.Prelude.{if◌then◌else◌}
use Rattle.cip_rational.specs.Rational.{ℚ, zeroℚ, ◌≤ℚ◌, le_test}
use Rattle.cip_rational.proofs.Rational.Order.{≤ℚ_trans, ≤ℚ_of_eq, ≤ℚ_of_lt, ≤ℚ_antisymm, le_of_test, lt_of_le_test}
use Rattle.cip_problem.specs.Program.{Sides}
use Rattle.cip_problem.specs.Activity.{value_at}
use Rattle.cip_problem.specs.Box.{Between, IsInBox, sides_at}
use Rattle.cip_problem.specs.Choices.{greater, lesser, met, zero_sides}

-- ---- sides that are met

above_greater : (a b : Option ℚ) (value : ℚ) → IfSome (greater a b) (λ side. side ≤ℚ value) → IfSome a (λ side. side ≤ℚ value) × IfSome b (λ side. side ≤ℚ value)
above_greater None b value h = (tt, h)
above_greater (Some a) None value h = (h, tt)
above_greater (Some a) (Some b) value h = tested (le_test a b) refl h
  where
    tested : (t : Bool) → le_test a b ≡ t → (if t then b else a) ≤ℚ value → (a ≤ℚ value) × (b ≤ℚ value)
    tested true e k = (≤ℚ_trans (le_of_test e) k, k)
    tested false e k = (k, ≤ℚ_trans (≤ℚ_of_lt (lt_of_le_test e)) k)

greater_above : (a b : Option ℚ) (value : ℚ) → IfSome a (λ side. side ≤ℚ value) → IfSome b (λ side. side ≤ℚ value) → IfSome (greater a b) (λ side. side ≤ℚ value)
greater_above None b value h k = k
greater_above (Some a) None value h k = h
greater_above (Some a) (Some b) value h k = either (le_test a b)
  where
    either : (t : Bool) → (if t then b else a) ≤ℚ value
    either true = k
    either false = h

below_lesser : (a b : Option ℚ) (value : ℚ) → IfSome (lesser a b) (λ side. value ≤ℚ side) → IfSome a (λ side. value ≤ℚ side) × IfSome b (λ side. value ≤ℚ side)
below_lesser None b value h = (tt, h)
below_lesser (Some a) None value h = (h, tt)
below_lesser (Some a) (Some b) value h = tested (le_test a b) refl h
  where
    tested : (t : Bool) → le_test a b ≡ t → value ≤ℚ (if t then a else b) → (value ≤ℚ a) × (value ≤ℚ b)
    tested true e k = (k, ≤ℚ_trans k (le_of_test e))
    tested false e k = (≤ℚ_trans k (≤ℚ_of_lt (lt_of_le_test e)), k)

lesser_below : (a b : Option ℚ) (value : ℚ) → IfSome a (λ side. value ≤ℚ side) → IfSome b (λ side. value ≤ℚ side) → IfSome (lesser a b) (λ side. value ≤ℚ side)
lesser_below None b value h k = k
lesser_below (Some a) None value h k = h
lesser_below (Some a) (Some b) value h k = either (le_test a b)
  where
    either : (t : Bool) → value ≤ℚ (if t then a else b)
    either true = h
    either false = k

-- a value between met sides lies between both, and the other way round
pub between_both : (sides others : Sides) (value : ℚ) → Between (met sides others).low (met sides others).high value → Between sides.low sides.high value × Between others.low others.high value
between_both sides others value h =
    let low = above_greater sides.low others.low value h.above in
    let high = below_lesser sides.high others.high value h.below in
    (record { above = low.0; below = high.0 }, record { above = low.1; below = high.1 })

pub between_met : (sides others : Sides) (value : ℚ) → Between sides.low sides.high value → Between others.low others.high value → Between (met sides others).low (met sides others).high value
between_met sides others value h k = record {
  above = greater_above sides.low others.low value h.above k.above;
  below = lesser_below sides.high others.high value h.below k.below;
}

-- ---- the sides of 0

pub zero_between : (value : ℚ) → value ≡ zeroℚ → Between zero_sides.low zero_sides.high value
zero_between value e = record { above = ≤ℚ_of_eq (sym e); below = ≤ℚ_of_eq e }

pub zero_of_between : (value : ℚ) → Between zero_sides.low zero_sides.high value → value ≡ zeroℚ
zero_of_between value h = ≤ℚ_antisymm h.below h.above

-- ---- other sides at one column

-- a box with other sides at a column holds a point of the box whose value lies between these
pub set_in_box : (box : List Sides) (column : ℕ) (sides : Sides) (point : List ℚ) → IsInBox box point → Between sides.low sides.high (value_at point column) → IsInBox (slice_set box column sides) point
set_in_box [] column sides point h k = h
set_in_box (s ∷ ss) column sides [] h k = absurd h
set_in_box (s ∷ ss) zero sides (v ∷ vs) h k = (k, h.1)
set_in_box (s ∷ ss) (suc column) sides (v ∷ vs) h k = (h.0, set_in_box ss column sides vs h.1 k)

-- its points are points of the box, where what lies between these lies between those of the box
pub set_within : (box : List Sides) (column : ℕ) (sides : Sides) (point : List ℚ) → ((value : ℚ) → Between sides.low sides.high value → Between (sides_at box column).low (sides_at box column).high value) → IsInBox (slice_set box column sides) point → IsInBox box point
set_within [] column sides point f h = h
set_within (s ∷ ss) zero sides [] f h = absurd h
set_within (s ∷ ss) (suc column) sides [] f h = absurd h
set_within (s ∷ ss) zero sides (v ∷ vs) f h = (f v h.0, h.1)
set_within (s ∷ ss) (suc column) sides (v ∷ vs) f h = (h.0, set_within ss column sides vs f h.1)

-- so are those where the sides of the column are met with others
pub met_within : (box : List Sides) (column : ℕ) (sides : Sides) (point : List ℚ) → IsInBox (slice_set box column (met (sides_at box column) sides)) point → IsInBox box point
met_within box column sides point h = set_within box column (met (sides_at box column) sides) point (λ value k. (between_both (sides_at box column) sides value k).0) h
