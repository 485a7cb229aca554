-- Numbers whose terms are small: their sums and products stay in the range.
use native.Mathlib.Nat.{div-le_self}
use Rattle.std.proofs.Common.{◌≡◌, ℕ, ◌+◌, ◌*◌, ◌/◌, ◌<◌, ◌≤◌, ◌^◌, ℤ, pos, ◌+ℤ◌, ◌*ℤ◌, unsigned_abs, Bool, false, cond, Ok, Err, refl, ap, ◌∙◌, arith}
use Rattle.std.proofs.lemmas.Int.{ints, unsigned_abs-mul}
use Rattle.std.proofs.Math.Nat.{mul-le-mul, le-mul_of_pos_right, mul-pos}
use Rattle.cip_rational.specs.Gcd.{gcd}
use Rattle.cip_rational.specs.Rational.{ℚ, ◌+ℚ◌, ◌*ℚ◌, ratio, numerator, denominator, is_ratio}
use Rattle.cip_rational.specs.Range.{largest, magnitude, raised, sum_overflows, product_overflows}
use Rattle.cip_rational.proofs.Rational.Lowest.{denominator-pos}
use Rattle.cip_rational.proofs.Rational.Ratio.{ratio-mul}
use Rattle.cip_rational.proofs.Range.InRange.{sum_in, fits_in, fits_product, fits-ratio, lowest-le}
use Rattle.cip_frac.specs.declared.operations.Wide.{Wide}
use Rattle.cip_frac.specs.Outcomes.{sum_outcome, product_outcome, and_then, product_added}

-- a numerator at a common denominator is no greater than at the product of the denominators
raised-le : (g : ℕ) (a b : ℚ) → magnitude (raised g a b) ≤ unsigned_abs (numerator a) * denominator b
raised-le g a b =
    rw (unsigned_abs-mul (numerator a) (pos (denominator b / g))) (mul-le-mul (let h : unsigned_abs (numerator a) ≤ unsigned_abs (numerator a) = omega arith in h) (div-le_self (denominator b) g))

-- a sum of two integers is at most the sum of their sizes
pub size_of_sum : (y z : ℤ) → magnitude (y +ℤ z) ≤ magnitude y + magnitude z
size_of_sum y z = omega (arith, ints)

-- a sum whose numerators and denominator over the product of the denominators are small
pub sum_in_range : (a b : ℚ) → unsigned_abs (numerator a) * denominator b < 2 ^ 126 → unsigned_abs (numerator b) * denominator a < 2 ^ 126 → denominator a * denominator b < 2 ^ 126 → sum_overflows a b ≡ false
sum_in_range a b p q r =
    let g : ℕ = gcd (denominator a) (denominator b) in
    let left : magnitude (raised g a b) ≤ unsigned_abs (numerator a) * denominator b = raised-le g a b in
    let right : magnitude (raised g b a) ≤ unsigned_abs (numerator b) * denominator a = raised-le g b a in
    let total : magnitude (raised g a b +ℤ raised g b a) ≤ magnitude (raised g a b) + magnitude (raised g b a) = size_of_sum (raised g a b) (raised g b a) in
    let bottom : denominator a / g * denominator b ≤ denominator a * denominator b = mul-le-mul (div-le_self (denominator a) g) (let h : denominator b ≤ denominator b = omega arith in h) in
    sum_in a b (record {
      left = omega (arith, left, p);
      right = omega (arith, right, q);
      total = omega (arith, left, right, total, p, q);
      bottom = omega (arith, bottom, r);
    })

-- the terms of a product that is not reduced
pub product_terms : (a b : ℚ) → a *ℚ b ≡ ratio (numerator a *ℤ numerator b) (denominator a * denominator b)
product_terms a b =
    let e = ratio-mul (numerator a) (numerator b) (denominator a) (denominator b) (denominator-pos a) (denominator-pos b) in
    rw (is_ratio a, is_ratio b) at e

pub product_in_range : (a b : ℚ) → unsigned_abs (numerator a) * unsigned_abs (numerator b) < 2 ^ 127 → denominator a * denominator b < 2 ^ 127 → product_overflows a b ≡ false
product_in_range a b p q =
    let small : magnitude (numerator a *ℤ numerator b) ≤ largest = rw (unsigned_abs-mul (numerator a) (numerator b)) (omega (arith, p)) in
    fits_product a b (rw (product_terms a b) (fits_in _ (fits-ratio (numerator a *ℤ numerator b) (denominator a * denominator b) (mul-pos (denominator-pos a) (denominator-pos b)) small (omega (arith, q)))))

pub product_size : (a b : ℚ) → (unsigned_abs (numerator (a *ℚ b)) ≤ unsigned_abs (numerator a) * unsigned_abs (numerator b)) × (denominator (a *ℚ b) ≤ denominator a * denominator b)
product_size a b =
    let h = lowest-le (numerator a *ℤ numerator b) (denominator a * denominator b) (mul-pos (denominator-pos a) (denominator-pos b)) in
    rw (product_terms a b, ← unsigned_abs-mul (numerator a) (numerator b)) h

taken : (overflows : Bool) (wide : Wide) (q : ℚ) → overflows ≡ false → cond overflows (Err wide) (Ok q) ≡ Ok q
taken overflows wide q e = rw e refl

-- a sum with a product added, whose numerators and denominator over the product of the denominators are small
pub step_in_range : (s x y : ℚ) → unsigned_abs (numerator s) * (denominator x * denominator y) < 2 ^ 126 → unsigned_abs (numerator x) * unsigned_abs (numerator y) * denominator s < 2 ^ 126 → denominator s * (denominator x * denominator y) < 2 ^ 126 → product_added s x y ≡ Ok (s +ℚ x *ℚ y)
step_in_range s x y p q r =
    let some : 0 < denominator s = denominator-pos s in
    let over : unsigned_abs (numerator x) * unsigned_abs (numerator y) ≤ unsigned_abs (numerator x) * unsigned_abs (numerator y) * denominator s = le-mul_of_pos_right _ some in
    let under : denominator x * denominator y ≤ denominator x * denominator y * denominator s = le-mul_of_pos_right _ some in
    let product : product_overflows x y ≡ false = product_in_range x y (omega (arith, over, q)) (omega (arith, under, r)) in
    let size = product_size x y in
    let first : unsigned_abs (numerator s) * denominator (x *ℚ y) ≤ unsigned_abs (numerator s) * (denominator x * denominator y) = mul-le-mul (let h : unsigned_abs (numerator s) ≤ unsigned_abs (numerator s) = omega arith in h) size.1 in
    let second : unsigned_abs (numerator (x *ℚ y)) * denominator s ≤ unsigned_abs (numerator x) * unsigned_abs (numerator y) * denominator s = mul-le-mul size.0 (let h : denominator s ≤ denominator s = omega arith in h) in
    let third : denominator s * denominator (x *ℚ y) ≤ denominator s * (denominator x * denominator y) = mul-le-mul (let h : denominator s ≤ denominator s = omega arith in h) size.1 in
    let sum : sum_overflows s (x *ℚ y) ≡ false = sum_in_range s (x *ℚ y) (omega (arith, first, p)) (omega (arith, second, q)) (omega (arith, third, r)) in
    let e : product_outcome x y ≡ Ok (x *ℚ y) = taken (product_overflows x y) _ (x *ℚ y) product in
    let f : sum_outcome s (x *ℚ y) ≡ Ok (s +ℚ x *ℚ y) = taken (sum_overflows s (x *ℚ y)) _ (s +ℚ x *ℚ y) sum in
    ap (λ o. and_then o (λ w. sum_outcome s w)) e ∙ f
