-- Which halves have a whole value.
use lib.Dec.{T}
use Rattle.std.proofs.Common.{◌≡◌, ◌∙◌, ℕ, ◌≤◌, ◌^◌, ℤ, pos, ◌+ℤ◌, unsigned_abs, Bool, true, false, Option, None, Some, sym, ap, ap₂, subst, arith}
use Rattle.std.proofs.lemmas.Int.{ints}
use Rattle.std.specs.Prelude.{◌≤ℤ◌, ◌<ℤ◌, ◌↔◌, IsTrue, int_le, int_lt}
use Rattle.cip_rational.specs.Rational.{ℚ, floor, ceil, integer}
use Rattle.cip_rational.proofs.Rational.Order.{≤ℚ_refl, ≤ℚ_trans}
use Rattle.cip_rational.proofs.Rational.Rounding.{integer_le, le_integer, le_ceil, ceil_least, floor_le, floor_greatest}
use Rattle.cip_problem.specs.Program.{Sides}
use Rattle.cip_problem.specs.Wholes.{HasWhole}
use Rattle.cip_domain.specs.Halves.{CanHalve, low_sides, high_sides}

pub low_whole : (low : ℚ) (at : ℤ) → ceil low ≤ℤ at → HasWhole (low_sides (record { low = Some low; high = None }) at)
low_whole low at h = record { number = at; between = record { above = ≤ℚ_trans (le_ceil low) (integer_le (ceil low) at h); below = ≤ℚ_refl (integer at) } }

pub whole_low : (low : ℚ) (at : ℤ) → at <ℤ ceil low → ¬ HasWhole (low_sides (record { low = Some low; high = None }) at)
whole_low low at h k =
    let a = ceil_least low k.number k.between.above in
    let b = le_integer k.number at k.between.below in
    omega (arith, ints, a, b, h)

pub high_whole : (high : ℚ) (at : ℤ) → at <ℤ floor high → HasWhole (high_sides (record { low = None; high = Some high }) at)
high_whole high at h = record { number = at +ℤ pos 1; between = record { above = ≤ℚ_refl (integer (at +ℤ pos 1)); below = ≤ℚ_trans (integer_le (at +ℤ pos 1) (floor high) (omega (arith, ints, h))) (floor_le high) } }

pub whole_high : (high : ℚ) (at : ℤ) → floor high ≤ℤ at → ¬ HasWhole (high_sides (record { low = None; high = Some high }) at)
whole_high high at h k =
    let a = floor_greatest high k.number k.between.below in
    let b = le_integer (at +ℤ pos 1) k.number k.between.above in
    omega (arith, ints, a, b, h)

pub open_low : (at : ℤ) → HasWhole (low_sides (record { low = None; high = None }) at)
open_low at = record { number = at; between = record { above = tt; below = ≤ℚ_refl (integer at) } }

pub open_high : (at : ℤ) → HasWhole (high_sides (record { low = None; high = None }) at)
open_high at = record { number = at +ℤ pos 1; between = record { above = ≤ℚ_refl (integer (at +ℤ pos 1)); below = tt } }

-- ---- what a test of two whole numbers says of others that they equal

pub le_known : (x y x' y' : ℤ) → x' ≡ x → y' ≡ y → int_le x' y' ≡ true → x ≤ℤ y
le_known x y x' y' ex ey e = rw (← ex, ← ey) (record { le = subst T (sym e) tt })

pub lt_known : (x y x' y' : ℤ) → x' ≡ x → y' ≡ y → int_lt x' y' ≡ true → x <ℤ y
lt_known x y x' y' ex ey e = rw (← ex, ← ey) (record { lt = subst T (sym e) tt })

le_failed_of : (x y : ℤ) → int_le x y ≡ false → y <ℤ x
le_failed_of x y e = grind (arith, ints)

lt_failed_of : (x y : ℤ) → int_lt x y ≡ false → y ≤ℤ x
lt_failed_of x y e = grind (arith, ints)

pub le_failed : (x y x' y' : ℤ) → x' ≡ x → y' ≡ y → int_le x' y' ≡ false → y <ℤ x
le_failed x y x' y' ex ey e = rw (← ex, ← ey) (le_failed_of x' y' e)

pub lt_failed : (x y x' y' : ℤ) → x' ≡ x → y' ≡ y → int_lt x' y' ≡ false → y ≤ℤ x
lt_failed x y x' y' ex ey e = rw (← ex, ← ey) (lt_failed_of x' y' e)

-- ---- when sides can be halved, by tests of the two halves

pub halved : (sides : Sides) (at : ℤ) (low high : Option ℚ) (z : ℤ) (size : ℕ) (a b : Bool) → low ≡ sides.low → high ≡ sides.high → z ≡ at → size ≡ unsigned_abs z → size ≤ 2 ^ 101
    → (IsTrue a ↔ HasWhole (low_sides (record { low = low; high = None }) z)) → a ≡ true → (IsTrue b ↔ HasWhole (high_sides (record { low = None; high = high }) z)) → IsTrue b ↔ CanHalve sides at
halved sides at low high z size a b el eh ez es near low_told e high_told =
    let lows = ap₂ (λ (side : Option ℚ) (z : ℤ). low_sides (record { low = side; high = None }) z) el ez in
    let highs = ap₂ (λ (side : Option ℚ) (z : ℤ). high_sides (record { low = None; high = side }) z) eh ez in (
      λ t. record {
        near = subst (λ (n : ℕ). n ≤ 2 ^ 101) (es ∙ ap unsigned_abs ez) near;
        low = subst HasWhole lows (low_told.0 e);
        high = subst HasWhole highs (high_told.0 t);
      },
      λ h. high_told.1 (subst HasWhole (sym highs) h.high),
    )
