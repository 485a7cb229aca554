-- Whole numbers, and the floor and the ceiling of a ratio.
use native.Mathlib.Nat.{mul-pos, lt_of_mul-lt-mul_right, mul-le-mul_right, mul-lt-mul_of_pos_right}
use borrow.Author.Differences.{up, down, neg_is, same_in, same_out, sum_is_lem, product_is}
use lib.Dec.{T_prop}
use Rattle.std.proofs.Common.{◌≡◌, ℕ, ◌+◌, ◌*◌, ◌<◌, ◌≤◌, T, true, ◌==◌, ℤ, pos, negsuc, neg_ℤ, ◌*ℤ◌, ◌+ℤ◌, refl, sym, ap, ap₂, ◌∙◌, subst, arith, zero-lt-suc, eqb→eq}
use Rattle.std.specs.Int.{int_div_euclid}
use Rattle.cip_rational.proofs.Rational.Ring.{whole_same, whole_add, whole_mul, whole_negate, integer_is, zero_is, one_is, sub_is}
use Rattle.cip_rational.specs.Rational.{ℚ, ◌+ℚ◌, ◌-ℚ◌, ◌*ℚ◌, zeroℚ, oneℚ, ratio, integer, whole, negate, numerator, denominator, is_ratio, is_whole, IsWhole, floor, ceil}
use Rattle.cip_rational.proofs.Rational.Ratio.{ratio-negate, ratio_same, same_ratio, ratio-mul, same_truth}
use Rattle.cip_rational.proofs.Rational.Lowest.{denominator-pos, denominator-integer}

-- ---- whole numbers

pub is_whole-denominator : (q : ℚ) → IsWhole q → denominator q ≡ 1
unfolding is_whole
is_whole-denominator q h = eqb→eq (denominator q) 1 h.holds

pub denominator-is_whole : (q : ℚ) → denominator q ≡ 1 → IsWhole q
unfolding is_whole
denominator-is_whole q e = record { holds = subst (λ n. T (n == 1)) (sym e) tt }

-- what the test says
pub IsWhole_of_test : (q : ℚ) → is_whole q ≡ true → IsWhole q
IsWhole_of_test q e = record { holds = subst T (sym e) tt }

pub test_of_IsWhole : (q : ℚ) → IsWhole q → is_whole q ≡ true
test_of_IsWhole q h = same_truth (is_whole q) true (λ _. tt) (λ _. h.holds)

pub IsWhole-prop : (q : ℚ) → IsProp (IsWhole q)
IsWhole-prop q x y = λ i. record { holds = T_prop (is_whole q) x.holds y.holds i }

-- a whole number is its numerator
pub whole_is : (q : ℚ) → IsWhole q → q ≡ integer (numerator q)
unfolding integer
whole_is q h = sym (is_ratio q) ∙ ap (ratio (numerator q)) (is_whole-denominator q h)

pub IsWhole-integer : (z : ℤ) → IsWhole (integer z)
IsWhole-integer z = denominator-is_whole (integer z) (denominator-integer z)

pub IsWhole_is_integer : (q : ℚ) (z : ℤ) → q ≡ integer z → IsWhole q
IsWhole_is_integer q z e = subst IsWhole (sym e) (IsWhole-integer z)

pub integer-pos : (n : ℕ) → integer (pos n) ≡ whole n 0
unfolding integer ratio whole
integer-pos n = refl

-- ---- floor and ceiling

-- r is z / d rounded down: r * d ≤ z < (r + 1) * d
pub record IsFloor (z : ℤ) (d : ℕ) (r : ℤ) : Type 0 where
  pub low : up r * d + down z ≤ up z + down r * d
  pub high : up z + down r * d < up r * d + d + down z

pub int_div_euclid_lem : (z : ℤ) (d : ℕ) → 0 < d → IsFloor z d (int_div_euclid z (pos d))
int_div_euclid_lem (pos a) d h = record { low = omega arith; high = omega arith }
int_div_euclid_lem (negsuc a) d h = record { low = omega arith; high = omega arith }

-- two ratios of one value have one floor
floors_apart : (z w : ℤ) (d e : ℕ) (r s : ℤ) → 0 < d → 0 < e → up z * e + down w * d ≡ up w * d + down z * e → IsFloor z d r → IsFloor w e s → up r + down s < up s + down r + 1
floors_apart z w d e r s p q h a b =
    let k : 0 < d * e = mul-pos p q in
    lt_of_mul-lt-mul_right (d * e) (omega (arith, k, h, mul-le-mul_right e a.low, mul-lt-mul_of_pos_right b.high p))

floors_same : (z w : ℤ) (d e : ℕ) (r s : ℤ) → 0 < d → 0 < e → up z * e + down w * d ≡ up w * d + down z * e → IsFloor z d r → IsFloor w e s → r ≡ s
floors_same z w d e r s p q h a b =
    same_in r s (omega (arith, floors_apart z w d e r s p q h a b, floors_apart w z e d s r q p (sym h) b a))

pub floor_lem : (q : ℚ) → IsFloor (numerator q) (denominator q) (floor q)
unfolding floor
floor_lem q = int_div_euclid_lem (numerator q) (denominator q) (denominator-pos q)

pub floor-ratio : (z : ℤ) (d : ℕ) → 0 < d → floor (ratio z d) ≡ int_div_euclid z (pos d)
unfolding floor
floor-ratio z d h =
    let n = numerator (ratio z d) in
    let m = denominator (ratio z d) in
    let p = denominator-pos (ratio z d) in
    let e = same_out _ _ (same_ratio n z m d p h (is_ratio (ratio z d))) in
    floors_same n z m d _ _ p h (omega (arith, e, product_is n (pos d), product_is z (pos m))) (int_div_euclid_lem n m p) (int_div_euclid_lem z d h)

pub ceil-ratio : (z : ℤ) (d : ℕ) → 0 < d → ceil (ratio z d) ≡ neg_ℤ (int_div_euclid (neg_ℤ z) (pos d))
unfolding ceil
ceil-ratio z d h = ap neg_ℤ (ap floor (ratio-negate z d) ∙ floor-ratio (neg_ℤ z) d h)

-- ---- sums and products of whole numbers

pub IsWhole-whole : (m n : ℕ) → IsWhole (whole m n)
IsWhole-whole m n =
    let z : ℤ = pos m +ℤ neg_ℤ (pos n) in
    let e : up z + n ≡ down z + m = omega (arith, sum_is_lem (pos m) (neg_ℤ (pos n)), neg_is (pos n)) in
    IsWhole_is_integer (whole m n) z (whole_same m n (up z) (down z) (omega (arith, e)) ∙ sym (integer_is z))

pub IsWhole-parts : (q : ℚ) → IsWhole q → q ≡ whole (up (numerator q)) (down (numerator q))
IsWhole-parts q h = whole_is q h ∙ integer_is (numerator q)

pub IsWhole-add : (a b : ℚ) → IsWhole a → IsWhole b → IsWhole (a +ℚ b)
IsWhole-add a b h k = subst IsWhole (sym (ap₂ (λ s t. s +ℚ t) (IsWhole-parts a h) (IsWhole-parts b k) ∙ whole_add _ _ _ _)) (IsWhole-whole _ _)

pub IsWhole-mul : (a b : ℚ) → IsWhole a → IsWhole b → IsWhole (a *ℚ b)
IsWhole-mul a b h k = subst IsWhole (sym (ap₂ (λ s t. s *ℚ t) (IsWhole-parts a h) (IsWhole-parts b k) ∙ whole_mul _ _ _ _)) (IsWhole-whole _ _)

pub IsWhole-negate : (a : ℚ) → IsWhole a → IsWhole (negate a)
IsWhole-negate a h = subst IsWhole (sym (ap negate (IsWhole-parts a h) ∙ whole_negate _ _)) (IsWhole-whole _ _)

integer-mul-ratio : (z : ℤ) (d : ℕ) → 0 < d → integer (pos d) *ℚ ratio z d ≡ integer z
unfolding integer
integer-mul-ratio z d p =
    ratio-mul (pos d) z 1 d (zero-lt-suc 0) p
    ∙ ratio_same (pos d *ℤ z) z (1 * d) 1 (mul-pos (zero-lt-suc 0) p) (zero-lt-suc 0)
    (same_in _ _ (omega (arith, product_is (pos d *ℤ z) (pos 1), product_is (pos d) z, product_is z (pos (1 * d)))))

pub IsWhole-sub : (a b : ℚ) → IsWhole a → IsWhole b → IsWhole (a -ℚ b)
IsWhole-sub a b h k = subst IsWhole (sym (sub_is a b)) (IsWhole-add a (negate b) h (IsWhole-negate b k))

pub IsWhole-zero : IsWhole zeroℚ
IsWhole-zero = subst IsWhole (sym zero_is) (IsWhole-whole 0 0)

pub IsWhole-one : IsWhole oneℚ
IsWhole-one = subst IsWhole (sym one_is) (IsWhole-whole 1 0)

-- a rational times its denominator is whole
pub IsWhole-scaled : (q : ℚ) → IsWhole (whole (denominator q) 0 *ℚ q)
IsWhole-scaled q = subst IsWhole (sym e) (IsWhole-integer (numerator q))
  where
    e : whole (denominator q) 0 *ℚ q ≡ integer (numerator q)
    e =
        let d = denominator q in
        let z = numerator q in
        let p = denominator-pos q in
        ap (λ t. whole d 0 *ℚ t) (sym (is_ratio q))
        ∙ ap (λ t. t *ℚ ratio z d) (sym (integer-pos d))
        ∙ integer-mul-ratio z d p
