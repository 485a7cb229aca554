-- A rational as two natural numbers and a rest, for linear arithmetic: rounded toward 0 it is `above - below`, and `rest` is 0 where it is whole, else 1.
use mathlib.Core.HLevel.{Π_prop}
use native.Mathlib.Bridge.{le_prop}
use native.Mathlib.Nat.{mul-pos, mul-le-mul_right, mul-lt-mul_of_pos_right, lt_of_mul-lt-mul_right, le_of_mul-le-mul_right, le-div_iff_mul-le, zero-div}
use borrow.Author.Differences.{up, down, neg_is, product_is, le_T}
use Rattle.std.proofs.Common.{◌≡◌, ◌⊎◌, inl, inr, ℕ, zero, suc, ◌+◌, ◌-◌, ◌*◌, ◌/◌, ◌<◌, ◌≤◌, ℤ, pos, negsuc, ◌*ℤ◌, Bool, true, false, T, refl, sym, ap, ◌∙◌, subst, subst₂, div-mul-le_self, arith, zero-lt-suc, div-one}
use Rattle.cip_rational.specs.Fraction.{Fraction, of, rational_ind}
use Rattle.cip_rational.proofs.Fraction.{rational_ind₂}
use Rattle.cip_rational.specs.OnFractions.{add, multiply, common, common-pos, over_is, lowest_numerator, lowest_denominator, lowest-exact, lowest-pos}
use Rattle.cip_rational.specs.Rational.{ℚ, ◌+ℚ◌, ◌*ℚ◌, negate, whole, zeroℚ, numerator, denominator, is_whole, IsWhole, ◌≤ℚ◌, ◌<ℚ◌, is_ratio}
use Rattle.cip_rational.proofs.Rational.Ring.{zero-*ℚ, whole_same}
use Rattle.cip_rational.proofs.Rational.Order.{≤ℚ_prop, <ℚ_prop, le_in, lt_in, lt_out}
use Rattle.cip_rational.proofs.Rational.Ratio.{le-ratio}
use Rattle.cip_rational.proofs.Rational.Lowest.{denominator-pos, numerator-negate, denominator-negate}
use Rattle.cip_rational.proofs.Rational.Whole.{is_whole-denominator, IsWhole-add, IsWhole-mul, IsWhole-whole}

-- the whole part of a number that is not negative, else 0
pub above : ℚ → ℕ
above q = up (numerator q) / denominator q

-- the whole part of the negative of a number that is negative, else 0
pub below : ℚ → ℕ
below q = down (numerator q) / denominator q

-- 0 for a test that passes
abbrev flag : Bool → ℕ
flag true = 0
flag false = 1

-- 0 where the number is whole, else 1
pub rest : ℚ → ℕ
rest q = flag (is_whole q)

pub rest_zero : (q : ℚ) → IsWhole q → rest q ≡ 0
unfolding rest
rest_zero q h = go (is_whole q) h.holds
  where
    go : (t : Bool) → T t → flag t ≡ 0
    go true h = refl
    go false h = absurd h

pub zero_rest : (q : ℚ) → rest q ≡ 0 → IsWhole q
unfolding rest
zero_rest q e = record { holds = go (is_whole q) e }
  where
    go : (t : Bool) → flag t ≡ 0 → T t
    go true e = tt
    go false e = absurd (omega (arith, e))

pub rest-le : (q : ℚ) → rest q ≤ 1
unfolding rest
rest-le q = go (is_whole q)
  where
    go : (t : Bool) → flag t ≤ 1
    go true = omega arith
    go false = omega arith

-- how near a fraction is to its rounded value
record Near (x : Fraction) : Type 0 where
  pub low : x.up + below (of x) * x.den ≤ x.down + above (of x) * x.den + rest (of x) * x.den
  pub high : x.down + above (of x) * x.den ≤ x.up + below (of x) * x.den + rest (of x) * x.den
  pub low_strict : x.up + below (of x) * x.den < x.down + above (of x) * x.den + x.den
  pub high_strict : x.down + above (of x) * x.den < x.up + below (of x) * x.den + x.den

near_either : (x : Fraction) → (x.up + below (of x) * x.den < x.down + above (of x) * x.den + x.den) × (x.down + above (of x) * x.den < x.up + below (of x) * x.den + x.den)
    → ((rest (of x) ≡ 0) × (x.up + below (of x) * x.den ≡ x.down + above (of x) * x.den)) ⊎ (rest (of x) ≡ 1) → Near x
near_either x s (inl k) = record { low = omega (arith, k.1); high = omega (arith, k.1); low_strict = s.0; high_strict = s.1 }
near_either x s (inr k) =
    let m = ap (λ t. t * x.den) k in
    record { low = omega (arith, m, s); high = omega (arith, m, s); low_strict = s.0; high_strict = s.1 }

strictly_near : (u v n g p q d : ℕ) → 0 < n → 0 < d → 0 < g → g * p ≡ u - v → g * q ≡ v - u → g * d ≡ n → (u + q / d * n < v + p / d * n + n) × (v + p / d * n < u + q / d * n + n)
strictly_near u v n g p q d h k l e f m =
    let a : p / d * d ≤ p = omega arith in
    let b : p < p / d * d + d = omega arith in
    let c : q / d * d ≤ q = omega arith in
    let o : q < q / d * d + d = omega arith in
    omega (arith, mul-le-mul_right g a, mul-lt-mul_of_pos_right b l, mul-le-mul_right g c, mul-lt-mul_of_pos_right o l, ap (λ t. p / d * t) m, ap (λ t. q / d * t) m, h, e, f, m)

above_of : (x : Fraction) → above (of x) ≡ up (lowest_numerator x) / lowest_denominator x
unfolding above numerator denominator
above_of x = refl

below_of : (x : Fraction) → below (of x) ≡ down (lowest_numerator x) / lowest_denominator x
unfolding below numerator denominator
below_of x = refl

whole_of : (x : Fraction) → IsWhole (of x) → lowest_denominator x ≡ 1
unfolding denominator
whole_of x h = is_whole-denominator (of x) h

parts : (x : Fraction) → (common x * up (lowest_numerator x) ≡ x.up - x.down) × (common x * down (lowest_numerator x) ≡ x.down - x.up)
parts x = ((lowest-exact x).0 ∙ (over_is x).0, (lowest-exact x).1 ∙ (over_is x).1)

near_strictly : (x : Fraction) → (x.up + below (of x) * x.den < x.down + above (of x) * x.den + x.den) × (x.down + above (of x) * x.den < x.up + below (of x) * x.den + x.den)
near_strictly x =
    rw (above_of x, below_of x)
    (strictly_near x.up x.down x.den (common x) (up (lowest_numerator x)) (down (lowest_numerator x)) (lowest_denominator x)
    x.positive (lowest-pos x) (common-pos x) (parts x).0 (parts x).1 (lowest-exact x).2)

near_exactly : (x : Fraction) → IsWhole (of x) → x.up + below (of x) * x.den ≡ x.down + above (of x) * x.den
near_exactly x h =
    let e = whole_of x h in
    let a : above (of x) ≡ up (lowest_numerator x) = above_of x ∙ ap (λ d. up (lowest_numerator x) / d) e ∙ div-one _ in
    let b : below (of x) ≡ down (lowest_numerator x) = below_of x ∙ ap (λ d. down (lowest_numerator x) / d) e ∙ div-one _ in
    let g : common x ≡ x.den = omega (arith, ap (λ d. common x * d) e, (lowest-exact x).2) in
    rw (a, b) (omega (arith, parts x, ap (λ t. up (lowest_numerator x) * t) g, ap (λ t. down (lowest_numerator x) * t) g))

near : (x : Fraction) → Near x
near x =
    let s = near_strictly x in
    let k : ((rest (of x) ≡ 0) × (x.up + below (of x) * x.den ≡ x.down + above (of x) * x.den)) ⊎ (rest (of x) ≡ 1) = go (rest (of x)) refl in
    near_either x s k
  where
    go : (n : ℕ) → rest (of x) ≡ n → ((rest (of x) ≡ 0) × (x.up + below (of x) * x.den ≡ x.down + above (of x) * x.den)) ⊎ (rest (of x) ≡ 1)
    go zero e = inl (e, near_exactly x (zero_rest (of x) e))
    go (suc n) e = inr (omega (arith, e, rest-le (of x)))

-- ---- sums and multiples: the rounded values are off by the rests at most

-- rounded values, and what they are off by
module _ (a b c : ℚ) where
  -- c is the sum of a and b, up to their rests
  pub record IsSum : Type 0 where
    pub low : above c + below a + below b ≤ below c + above a + above b + rest a + rest b
    pub high : below c + above a + above b ≤ above c + below a + below b + rest a + rest b
    pub whole : rest c ≤ rest a + rest b

IsSum_prop : (a b c : ℚ) → IsProp (IsSum a b c)
IsSum_prop a b c x y = λ i. record { low = le_prop x.low y.low i; high = le_prop x.high y.high i; whole = le_prop x.whole y.whole i }

rest-sum : (a b : ℚ) → rest (a +ℚ b) ≤ rest a + rest b
rest-sum a b = go (rest a) (rest b) refl refl
  where
    go : (m n : ℕ) → rest a ≡ m → rest b ≡ n → rest (a +ℚ b) ≤ rest a + rest b
    go zero zero e f = omega (arith, rest_zero (a +ℚ b) (IsWhole-add a b (zero_rest a e) (zero_rest b f)))
    go (suc m) n e f = omega (arith, e, rest-le (a +ℚ b))
    go m (suc n) e f = omega (arith, f, rest-le (a +ℚ b))

-- x's and y's rounded values against their sum's, one way round
sum_bound : (xu xd n yu yd m ax bx rx ay by ry ac bc : ℕ) → xu + bx * n ≤ xd + ax * n + rx * n → yu + by * m ≤ yd + ay * m + ry * m
    → (xd * m + yd * n) + ac * (n * m) < (xu * m + yu * n) + bc * (n * m) + n * m → ac + bx + by ≤ bc + ax + ay + rx + ry
sum_bound xu xd n yu yd m ax bx rx ay by ry ac bc h k s =
    let g : (ac + bx + by) * (n * m) < (bc + ax + ay + rx + ry + 1) * (n * m) = omega (arith, mul-le-mul_right m h, mul-le-mul_right n k, s) in
    omega (arith, lt_of_mul-lt-mul_right (n * m) g)

pub sum_lem : (a b : ℚ) → IsSum a b (a +ℚ b)
unfolding ◌+ℚ◌
sum_lem =
    rational_ind₂ (λ a b. IsSum a b (a +ℚ b)) (λ a b. IsSum_prop a b (a +ℚ b))
    (λ x y. let n = near x in let m = near y in let s = near (add x y) in
    record {
      low = sum_bound x.up x.down x.den y.up y.down y.den _ _ _ _ _ _ _ _ n.low m.low s.high_strict;
      high = sum_bound x.down x.up x.den y.down y.up y.den _ _ _ _ _ _ _ _ n.high m.high s.low_strict;
      whole = rest-sum (of x) (of y);
    })

-- c is (m - n) times a, up to its rest
pub record IsMultiple (m n : ℕ) (a c : ℚ) : Type 0 where
  pub low : above c + m * below a + n * above a ≤ below c + m * above a + n * below a + (m + n) * rest a
  pub high : below c + m * above a + n * below a ≤ above c + m * below a + n * above a + (m + n) * rest a
  pub whole : rest c ≤ (m + n) * rest a

IsMultiple_prop : (m n : ℕ) (a c : ℚ) → IsProp (IsMultiple m n a c)
IsMultiple_prop m n a c x y = λ i. record { low = le_prop x.low y.low i; high = le_prop x.high y.high i; whole = le_prop x.whole y.whole i }

rest-multiple : (m n : ℕ) (a : ℚ) → rest (whole m n *ℚ a) ≤ (m + n) * rest a
unfolding zeroℚ
rest-multiple m n a = go (rest a) refl (m + n) refl
  where
    go : (r : ℕ) → rest a ≡ r → (k : ℕ) → m + n ≡ k → rest (whole m n *ℚ a) ≤ (m + n) * rest a
    go zero e k f = omega (arith, rest_zero (whole m n *ℚ a) (IsWhole-mul (whole m n) a (IsWhole-whole m n) (zero_rest a e)))
    go (suc r) e zero f = omega (arith, rest_zero (whole m n *ℚ a) (subst (λ t. IsWhole t) (sym (ap (λ t. t *ℚ a) (whole_same m n 0 0 (omega (arith, f))) ∙ zero-*ℚ a)) (IsWhole-whole 0 0)))
    go (suc r) e (suc k) f = omega (arith, e, f, rest-le (whole m n *ℚ a), ap (λ t. t * rest a) f, ap (λ t. k * t) e)

multiple_bound : (m n xu xd d ax bx rx ac bc : ℕ) → 0 < d → xu + bx * d ≤ xd + ax * d + rx * d → xd + ax * d ≤ xu + bx * d + rx * d
    → (m * xd + n * xu) + ac * (1 * d) < (m * xu + n * xd) + bc * (1 * d) + 1 * d → ac + m * bx + n * ax ≤ bc + m * ax + n * bx + (m + n) * rx
multiple_bound m n xu xd d ax bx rx ac bc p h k s =
    let g : (ac + m * bx + n * ax) * d < (bc + m * ax + n * bx + (m + n) * rx + 1) * d = omega (arith, mul-le-mul_right m h, mul-le-mul_right n k, s) in
    omega (arith, lt_of_mul-lt-mul_right d g)

pub multiple_lem : (m n : ℕ) (a : ℚ) → IsMultiple m n a (whole m n *ℚ a)
unfolding ◌*ℚ◌ whole
multiple_lem m n =
    rational_ind (λ a. IsMultiple m n a (whole m n *ℚ a)) (λ a. IsMultiple_prop m n a (whole m n *ℚ a))
    (λ x. let h = near x in let s = near (multiply (record { up = m; down = n; den = 1; positive = zero-lt-suc 0 }) x) in
    record {
      low = multiple_bound m n x.up x.down x.den _ _ _ _ _ x.positive h.low h.high s.high_strict;
      high = multiple_bound m n x.down x.up x.den _ _ _ _ _ x.positive h.high h.low s.low_strict;
      whole = rest-multiple m n (of x);
    })

-- ---- negation and whole numbers

pub negate_above : (a : ℚ) → (above (negate a) ≡ below a) × (below (negate a) ≡ above a) × (rest (negate a) ≡ rest a)
unfolding above below rest is_whole
negate_above a = rw (numerator-negate a, denominator-negate a, (neg_is (numerator a)).0, (neg_is (numerator a)).1) (refl, refl, refl)

pub whole_above : (m n : ℕ) → (above (whole m n) + n ≡ below (whole m n) + m) × (rest (whole m n) ≡ 0)
unfolding whole
whole_above m n =
    let h : IsWhole (whole m n) = IsWhole-whole m n in
    (omega (arith, near_exactly (record { up = m; down = n; den = 1; positive = zero-lt-suc 0 }) h), rest_zero (whole m n) h)

-- ---- the order

-- rounding toward 0 keeps the order
quotients : (m n d e : ℕ) → 0 < d → 0 < e → m * e ≤ n * d → m / d ≤ n / e
quotients m n d e p q h =
    (le-div_iff_mul-le q).1 (le_of_mul-le-mul_right {k = d} (omega (arith, h, mul-le-mul_right e (div-mul-le_self m d))) p)

divided : (y z : ℤ) (d e : ℕ) → 0 < d → 0 < e → up y * e + down z * d ≤ up z * d + down y * e → (up y / d ≤ up z / e) × (down z / e ≤ down y / d)
divided (pos m) (pos n) d e p q h = (quotients m n d e p q (omega (arith, h)), rw (zero-div e) (omega arith))
divided (pos m) (negsuc n) d e p q h = absurd (omega (arith, h, mul-le-mul_right d (zero-lt-suc n)))
divided (negsuc m) (pos n) d e p q h = (rw (zero-div d) (omega arith), rw (zero-div e) (omega arith))
divided (negsuc m) (negsuc n) d e p q h = (rw (zero-div d) (omega arith), quotients (suc n) (suc m) e d q p (omega (arith, h)))

le_ratio_at : (a b : ℚ) → a ≤ℚ b → up (numerator a) * denominator b + down (numerator b) * denominator a ≤ up (numerator b) * denominator a + down (numerator a) * denominator b
le_ratio_at a b h =
    let k = le-ratio (numerator a) (numerator b) (denominator a) (denominator b) (denominator-pos a) (denominator-pos b) (subst₂ (λ s t. s ≤ℚ t) (sym (is_ratio a)) (sym (is_ratio b)) h) in
    omega (arith, le_T (numerator a *ℤ pos (denominator b)) (numerator b *ℤ pos (denominator a)) k.le, product_is (numerator a) (pos (denominator b)), product_is (numerator b) (pos (denominator a)))

pub le_above : (a b : ℚ) → a ≤ℚ b → above a + below b ≤ above b + below a
unfolding above below
le_above a b h =
    let s = le_ratio_at a b h in
    let d = divided (numerator a) (numerator b) (denominator a) (denominator b) (denominator-pos a) (denominator-pos b) s in
    omega (arith, d)

pub lt_above : (a b : ℚ) → a <ℚ b → above a + below b < above b + below a + rest a + rest b
lt_above =
    rational_ind₂ (λ a b. a <ℚ b → above a + below b < above b + below a + rest a + rest b) (λ a b. Π_prop (λ _. le_prop))
    (λ x y h.
    let n = near x in
    let m = near y in
    let g : (above (of x) + below (of y)) * (x.den * y.den) < (above (of y) + below (of x) + rest (of x) + rest (of y)) * (x.den * y.den) = omega (arith, lt_out x y h, mul-le-mul_right y.den n.high, mul-le-mul_right x.den m.low) in
    lt_of_mul-lt-mul_right (x.den * y.den) g)

pub above_le : (a b : ℚ) → above a + below b + rest a + rest b ≤ above b + below a → a ≤ℚ b
above_le =
    rational_ind₂ (λ a b. above a + below b + rest a + rest b ≤ above b + below a → a ≤ℚ b) (λ a b. Π_prop (λ _. ≤ℚ_prop))
    (λ x y h. let n = near x in let m = near y in le_in x y (omega (arith, mul-le-mul_right y.den n.low, mul-le-mul_right x.den m.high, mul-le-mul_right (x.den * y.den) h)))

pub above_lt : (a b : ℚ) → above a + below b + rest a + rest b < above b + below a → a <ℚ b
above_lt =
    rational_ind₂ (λ a b. above a + below b + rest a + rest b < above b + below a → a <ℚ b) (λ a b. Π_prop (λ _. <ℚ_prop))
    (λ x y h. let n = near x in let m = near y in lt_in x y (omega (arith, mul-le-mul_right y.den n.low, mul-le-mul_right x.den m.high, mul-lt-mul_of_pos_right h (mul-pos x.positive y.positive))))
