-- Which sides can be halved.
use Rattle.std.proofs.Common.{◌≡◌, ◌↔◌, ◌^◌, ℤ, pos, ◌+ℤ◌, Bool, true, false, ◌&&◌, T, Option, None, Some, refl, ap₂, arith}
use Rattle.std.specs.Prelude.{unsigned_abs, nat_le, int_le, int_lt, ◌≤ℤ◌, ◌<ℤ◌}
use Rattle.std.proofs.lemmas.Int.{ints}
use Rattle.std.proofs.lemmas.Bool.{and_parts, leb-true, le-leb}
use Rattle.std.proofs.lemmas.Float.{T_from_true}
use Rattle.cip_rational.specs.Rational.{ℚ, integer, floor, ceil}
use Rattle.cip_rational.proofs.Rational.Order.{≤ℚ_refl, ≤ℚ_trans}
use Rattle.cip_rational.proofs.Rational.Rounding.{integer_le, le_integer, le_ceil, ceil_least, floor_le, floor_greatest}
use Rattle.cip_problem.specs.Program.{Sides}
use Rattle.cip_problem.specs.Wholes.{HasWhole}
use Rattle.cip_lagrange.specs.TreeOutcomes.{has_low, has_high, can_halve}
use Rattle.cip_lagrange.specs.TreeMeaning.{CanBeHalved}

passed : (b : Bool) → T b → b ≡ true
passed true t = refl
passed false t = absurd t

low_has : (low : Option ℚ) (at : ℤ) → has_low low at ≡ true → HasWhole (record { low = low; high = Some (integer at) })
low_has None at e = record { number = at; between = record { above = tt; below = ≤ℚ_refl (integer at) } }
low_has (Some low) at e =
    let h : ceil low ≤ℤ at = record { le = T_from_true (int_le (ceil low) at) e } in
    record {
      number = at;
      between = record
          { above = ≤ℚ_trans (le_ceil low) (integer_le (ceil low) at h); below = ≤ℚ_refl (integer at) };
    }

has_from_low : (low : Option ℚ) (at : ℤ) → HasWhole (record { low = low; high = Some (integer at) })
    → has_low low at ≡ true
has_from_low None at h = refl
has_from_low (Some low) at h =
    let a = ceil_least low h.number h.between.above in
    let b = le_integer h.number at h.between.below in
    let k : ceil low ≤ℤ at = omega (arith, ints, a, b) in
    passed (int_le (ceil low) at) k.le

high_has : (high : Option ℚ) (at : ℤ) → has_high high at ≡ true
    → HasWhole (record { low = Some (integer (at +ℤ pos 1)); high = high })
high_has None at e = record
    { number = at +ℤ pos 1; between = record { above = ≤ℚ_refl (integer (at +ℤ pos 1)); below = tt } }
high_has (Some high) at e =
    let h : at <ℤ floor high = record { lt = T_from_true (int_lt at (floor high)) e } in
    record {
      number = at +ℤ pos 1;
      between = record {
        above = ≤ℚ_refl (integer (at +ℤ pos 1));
        below = ≤ℚ_trans
            (integer_le (at +ℤ pos 1) (floor high) (omega (arith, ints, h))) (floor_le high);
      };
    }

has_from_high : (high : Option ℚ) (at : ℤ) → HasWhole (record { low = Some (integer (at +ℤ pos 1)); high = high })
    → has_high high at ≡ true
has_from_high None at h = refl
has_from_high (Some high) at h =
    let a = floor_greatest high h.number h.between.below in
    let b = le_integer (at +ℤ pos 1) h.number h.between.above in
    let k : at <ℤ floor high = omega (arith, ints, a, b) in
    passed (int_lt at (floor high)) k.lt

to_halved : (sides : Sides) (at : ℤ) → can_halve sides at ≡ true → CanBeHalved sides at
to_halved sides at e =
    let parts = and_parts (nat_le (unsigned_abs at) (2 ^ 101)) (has_low sides.low at && has_high sides.high at) e in
    let sides_parts = and_parts (has_low sides.low at) (has_high sides.high at) parts.1 in
    record {
      near = leb-true (unsigned_abs at) (2 ^ 101) parts.0;
      low = low_has sides.low at sides_parts.0;
      high = high_has sides.high at sides_parts.1;
    }

from_halved : (sides : Sides) (at : ℤ) → CanBeHalved sides at → can_halve sides at ≡ true
from_halved sides at h =
    ap₂ (λ x y. x && y) (le-leb (unsigned_abs at) (2 ^ 101) h.near)
    (ap₂ (λ x y. x && y) (has_from_low sides.low at h.low) (has_from_high sides.high at h.high))

pub halved_means : (sides : Sides) (at : ℤ) → (can_halve sides at ≡ true) ↔ CanBeHalved sides at
halved_means sides at = (to_halved sides at, from_halved sides at)
