-- The operations on fractions, and that each gives the same at fractions of one value.
--     add, multiply, opposite, fraction_at_most       on fractions as they stand, with no reduction
--     over, common, lowest_numerator, lowest_denominator      a fraction's lowest terms
use lib.IntN.{ℤ, pos, negsuc}
use native.Mathlib.Nat.{mul-sub, dvd-zero, le_of_mul-le-mul_right, mul-pos, mul-div_cancel', eq-zero-or-pos}
use borrow.Author.Differences.{up, down, sum_is_lem, neg_is, abs_is, quot_is, same_in}
use Rattle.std.proofs.Common.{◌≡◌, ℕ, ◌+◌, ◌-◌, ◌*◌, ◌/◌, ◌<◌, ◌≤◌, min, Bool, true, false, leb, ◌-ℤ◌, neg_ℤ, unsigned_abs, int_div, refl, sym, ap, ◌∙◌, arith, mul-le-mul_right, leb-true, leb-false, inl, inr}
use Rattle.std.specs.Int.{◌∣◌}
use Rattle.cip_rational.specs.Gcd.{gcd, gcd_lem, gcd-pos, gcd-mul, quotients_same}
use Rattle.cip_rational.specs.Fraction.{Fraction, Same, of, same_equal}

-- ---- operations

-- (x + y) over the product of the denominators
abbrev pub add : Fraction → Fraction → Fraction
add x y = record {
  up = x.up * y.den + y.up * x.den;
  down = x.down * y.den + y.down * x.den;
  den = x.den * y.den;
  positive = mul-pos x.positive y.positive;
}

-- the product of the numerators over that of the denominators
abbrev pub multiply : Fraction → Fraction → Fraction
multiply x y = record {
  up = x.up * y.up + x.down * y.down;
  down = x.up * y.down + x.down * y.up;
  den = x.den * y.den;
  positive = mul-pos x.positive y.positive;
}

-- x with the other sign
abbrev pub opposite : Fraction → Fraction
opposite x = record { up = x.down; down = x.up; den = x.den; positive = x.positive }

-- x is at most y, by cross products
abbrev pub fraction_at_most : Fraction → Fraction → Bool
fraction_at_most x y = leb (x.up * y.den + y.down * x.den) (y.up * x.den + x.down * y.den)

pub add_left : (x y z : Fraction) → Same x y → of (add x z) ≡ of (add y z)
add_left x y z r = same_equal _ _ (record { cross = omega (arith, ap (λ t. t * (z.den * z.den)) r.cross) })

pub add_right : (z x y : Fraction) → Same x y → of (add z x) ≡ of (add z y)
add_right z x y r = same_equal _ _ (record { cross = omega (arith, ap (λ t. t * (z.den * z.den)) r.cross) })

pub multiply_left : (x y z : Fraction) → Same x y → of (multiply x z) ≡ of (multiply y z)
multiply_left x y z r =
    same_equal _ _ (record {
      cross = omega (arith, ap (λ t. t * (z.up * z.den)) r.cross, ap (λ t. t * (z.down * z.den)) r.cross);
    })

pub multiply_right : (z x y : Fraction) → Same x y → of (multiply z x) ≡ of (multiply z y)
multiply_right z x y r =
    same_equal _ _ (record {
      cross = omega (arith, ap (λ t. t * (z.up * z.den)) r.cross, ap (λ t. t * (z.down * z.den)) r.cross);
    })

pub opposite_same : (x y : Fraction) → Same x y → of (opposite x) ≡ of (opposite y)
opposite_same x y r = same_equal _ _ (record { cross = omega (arith, r.cross) })

-- two tests of orders that follow from one another
same_test : (a b c d : ℕ) → (a ≤ b → c ≤ d) → (c ≤ d → a ≤ b) → leb a b ≡ leb c d
same_test a b c d f g = go (leb a b) (leb c d) refl refl
  where
    go : (s t : Bool) → leb a b ≡ s → leb c d ≡ t → s ≡ t
    go true true p q = refl
    go false false p q = refl
    go true false p q = absurd (omega (arith, leb-true a b p, leb-false c d q))
    go false true p q = absurd (omega (arith, leb-false a b p, leb-true c d q))

pub at_most_left : (x y z : Fraction) → Same x y → fraction_at_most x z ≡ fraction_at_most y z
at_most_left x y z r =
    same_test _ _ _ _
    (λ h. le_of_mul-le-mul_right {k = x.den}
    (omega (arith, mul-le-mul_right y.den h, ap (λ t. t * z.den) r.cross)) x.positive)
    (λ h. le_of_mul-le-mul_right {k = y.den}
    (omega (arith, mul-le-mul_right x.den h, ap (λ t. t * z.den) r.cross)) y.positive)

pub at_most_right : (z x y : Fraction) → Same x y → fraction_at_most z x ≡ fraction_at_most z y
at_most_right z x y r =
    same_test _ _ _ _
    (λ h. le_of_mul-le-mul_right {k = x.den}
    (omega (arith, mul-le-mul_right y.den h, ap (λ t. t * z.den) r.cross)) x.positive)
    (λ h. le_of_mul-le-mul_right {k = y.den}
    (omega (arith, mul-le-mul_right x.den h, ap (λ t. t * z.den) r.cross)) y.positive)

-- ---- lowest terms

-- the numerator as it stands
abbrev pub over : Fraction → ℤ
over x = pos x.up -ℤ pos x.down

-- what the numerator and the denominator have in common
abbrev pub common : Fraction → ℕ
common x = gcd (unsigned_abs (over x)) x.den

-- the numerator without what is in common
abbrev pub lowest_numerator : Fraction → ℤ
lowest_numerator x = int_div (over x) (pos (common x))

-- the denominator without what is in common
abbrev pub lowest_denominator : Fraction → ℕ
lowest_denominator x = x.den / common x

-- one of the two parts of an integer is 0
pub parts_apart : (z : ℤ) → min (up z) (down z) ≡ 0
parts_apart (pos n) = omega arith
parts_apart (negsuc n) = omega arith

pub over_is : (x : Fraction) → (up (over x) ≡ x.up - x.down) × (down (over x) ≡ x.down - x.up)
over_is x =
    let s = sum_is_lem (pos x.up) (neg_ℤ (pos x.down)) in
    let n = neg_is (pos x.down) in
    let p = parts_apart (over x) in
    omega arith

-- a divisor of an integer divides both of its parts
divides_parts : (g : ℕ) (z : ℤ) → g ∣ unsigned_abs z → (g ∣ up z) × (g ∣ down z)
divides_parts g (pos n) h = (h, dvd-zero g)
divides_parts g (negsuc n) h = (dvd-zero g, h)

pub common-divides : (x : Fraction) → (common x ∣ up (over x)) × (common x ∣ down (over x)) × (common x ∣ x.den)
common-divides x =
    let g = gcd_lem (unsigned_abs (over x)) x.den in
    let p = divides_parts (common x) (over x) g.0 in
    (p.0, p.1, g.1)

pub common-pos : (x : Fraction) → 0 < common x
common-pos x = gcd-pos (unsigned_abs (over x)) x.den x.positive

-- the differences' cross products are equal too
cut : (a b c d e f : ℕ) → a * e + d * f ≡ c * f + b * e → (a - b) * e ≡ (c - d) * f
cut a b c d e f h = omega (arith, mul-sub e a b, mul-sub f c d)

module _ (x y : Fraction) (r : Same x y) where
  ups : up (over x) * y.den ≡ up (over y) * x.den
  ups = rw ((over_is x).0, (over_is y).0) (cut x.up x.down y.up y.down y.den x.den r.cross)

  downs : down (over x) * y.den ≡ down (over y) * x.den
  downs = rw ((over_is x).1, (over_is y).1) (cut x.down x.up y.down y.up y.den x.den (omega (arith, r.cross)))

  sizes : y.den * unsigned_abs (over x) ≡ x.den * unsigned_abs (over y)
  sizes =
      let a : unsigned_abs (over x) ≡ up (over x) + down (over x) =
      omega (arith, abs_is (over x), parts_apart (over x)) in
      let b : unsigned_abs (over y) ≡ up (over y) + down (over y) =
      omega (arith, abs_is (over y), parts_apart (over y)) in
      rw (a, b) (omega (arith, ups, downs))

  -- the common divisors are in the ratio of the denominators
  commons : common x * y.den ≡ common y * x.den
  commons =
      let a = gcd-mul y.den (unsigned_abs (over x)) x.den y.positive in
      let b = gcd-mul x.den (unsigned_abs (over y)) y.den x.positive in
      let e : y.den * x.den ≡ x.den * y.den = omega arith in
      let s = sizes in
      let t : y.den * common x ≡ x.den * common y =
      sym a ∙ ap (λ n. gcd n (y.den * x.den)) s ∙ ap (gcd (x.den * unsigned_abs (over y))) e ∙ b in
      omega arith

  pub denominator_same : lowest_denominator x ≡ lowest_denominator y
  denominator_same =
      quotients_same _ _ x.den y.den _ _ (mul-pos (common-pos x) y.positive) commons (omega arith)
      (common-divides x).2 (common-divides y).2

  pub numerator_same : lowest_numerator x ≡ lowest_numerator y
  numerator_same =
      let p : 0 < common x * y.den = mul-pos (common-pos x) y.positive in
      let a = quotients_same _ _ x.den y.den _ _ p commons ups (common-divides x).0 (common-divides y).0 in
      let b = quotients_same _ _ x.den y.den _ _ p commons downs (common-divides x).1 (common-divides y).1 in
      same_in _ _ (omega (arith, a, b, quot_is (over x) (common x), quot_is (over y) (common y)))

-- a fraction's parts are those of its lowest terms, times what they have in common
pub lowest-exact : (x : Fraction)
    → (common x * up (lowest_numerator x) ≡ up (over x)) × (common x * down (lowest_numerator x) ≡ down (over x))
    × (common x * lowest_denominator x ≡ x.den)
lowest-exact x =
    let q = quot_is (over x) (common x) in
    let d = common-divides x in
    (rw q.0 (mul-div_cancel' _ d.0), rw q.1 (mul-div_cancel' _ d.1), mul-div_cancel' _ d.2)

pub lowest-pos : (x : Fraction) → 0 < lowest_denominator x
lowest-pos x = elim (eq-zero-or-pos (lowest_denominator x)) [
  | inl e ↦ absurd (omega (arith, x.positive, (lowest-exact x).2, ap (λ t. common x * t) e))
  | inr h ↦ h
]

-- the lowest terms have the fraction's value
pub lowest-same : (x : Fraction)
    → Same (record {
      up = up (lowest_numerator x);
      down = down (lowest_numerator x);
      den = lowest_denominator x;
      positive = lowest-pos x;
    }) x
lowest-same x =
    let e = lowest-exact x in
    let p : x.up + down (over x) ≡ x.down + up (over x) = omega (arith, over_is x) in
    record {
      cross = omega (
        arith,
        ap (λ t. lowest_denominator x * t) p,
        ap (λ t. t * lowest_denominator x) e.0,
        ap (λ t. t * lowest_denominator x) e.1,
        ap (λ t. up (lowest_numerator x) * t) e.2,
        ap (λ t. down (lowest_numerator x) * t) e.2,
      );
    }
