-- The inverse: its laws, and how bounds are divided by it.
use native.Mathlib.Nat.{mul-pos}
use borrow.Author.Differences.{up, down, neg_is, product_is, same_in}
use Rattle.std.proofs.Common.{◌≡◌, ◌⊎◌, inl, inr, ℕ, zero, suc, ◌*◌, ◌<◌, ℤ, pos, negsuc, neg_ℤ, ◌*ℤ◌, refl, sym, ap, ◌∙◌, subst, arith, zero-lt-suc}
use Rattle.cip_rational.specs.Rational.{ℚ, ◌*ℚ◌, negate, inverse, ratio, integer, zeroℚ, oneℚ, ◌≤ℚ◌, ◌<ℚ◌, numerator, denominator, is_ratio}
use Rattle.cip_rational.proofs.Rational.Ratio.{ratio-mul, ratio_same}
use Rattle.cip_rational.proofs.Rational.Lowest.{denominator-pos, numerator-integer}
use Rattle.cip_rational.proofs.Rational.Ring.{*ℚ_comm, *ℚ_assoc, *ℚ-one, one-*ℚ, zero-*ℚ, *ℚ-zero, one_is_not_zero, negate_zero, *ℚ-negate, negate-*ℚ, negate_negate}
use Rattle.cip_rational.proofs.Rational.Order.{≤ℚ_of_lt, le_or_lt, ne_of_lt}
use Rattle.cip_rational.proofs.Rational.Monotone.{*ℚ_mono, *ℚ_nonneg, le_of_*ℚ, lt_of_*ℚ, negate_mono, negate_strict, zero-lt-one}
use Rattle.cip_rational.proofs.Rational.Compare.{below, same, over, trichotomy}
use Rattle.cip_rational.proofs.Rational.Rounding.{integer-zero, integer-one}

at_numerator : (a : ℚ) (z : ℤ) → numerator a ≡ z → a ≡ ratio z (denominator a)
at_numerator a z e = sym (is_ratio a) ∙ ap (λ t. ratio t (denominator a)) e

pub ratio_zero : (d : ℕ) → 0 < d → ratio (pos 0) d ≡ zeroℚ
unfolding integer
ratio_zero d h = ratio_same (pos 0) (pos 0) d 1 h (zero-lt-suc 0) (ap pos (omega arith)) ∙ integer-zero

-- a ratio that is turned round
turned_round : (y z : ℤ) (d e : ℕ) → 0 < d → 0 < e → up (y *ℤ z) ≡ d * e → down (y *ℤ z) ≡ 0 → ratio y d *ℚ ratio z e ≡ oneℚ
unfolding integer
turned_round y z d e p q u v =
    ratio-mul y z d e p q
    ∙ ratio_same (y *ℤ z) (pos 1) (d * e) 1 (mul-pos p q) (zero-lt-suc 0) (same_in _ _ (omega (arith, u, v, product_is (y *ℤ z) (pos 1), product_is (pos 1) (pos (d * e)))))
    ∙ integer-one

pub *ℚ-inverse : (a : ℚ) → ¬ (a ≡ zeroℚ) → a *ℚ inverse a ≡ oneℚ
unfolding inverse
*ℚ-inverse a h = go (numerator a) refl
  where
    go : (z : ℤ) → numerator a ≡ z → a *ℚ inverse a ≡ oneℚ
    go (pos zero) e = absurd (h (at_numerator a (pos 0) e ∙ ratio_zero (denominator a) (denominator-pos a)))
    go (pos (suc k)) e = rw e (ap (λ t. t *ℚ ratio (pos (denominator a)) (suc k)) (at_numerator a (pos (suc k)) e) ∙ turned_round (pos (suc k)) (pos (denominator a)) (denominator a) (suc k) (denominator-pos a) (zero-lt-suc k) (omega arith) refl)
    go (negsuc k) e =
        let n = neg_is (pos (denominator a)) in
        let m = product_is (negsuc k) (neg_ℤ (pos (denominator a))) in
        rw e (ap (λ t. t *ℚ ratio (neg_ℤ (pos (denominator a))) (suc k)) (at_numerator a (negsuc k) e)
        ∙ turned_round (negsuc k) (neg_ℤ (pos (denominator a))) (denominator a) (suc k) (denominator-pos a) (zero-lt-suc k) (omega (arith, m, ap (λ t. suc k * t) n.1)) (omega (arith, m, ap (λ t. suc k * t) n.0)))

pub inverse_zero : inverse zeroℚ ≡ zeroℚ
unfolding inverse ratio zeroℚ
inverse_zero = rw (sym (ap numerator integer-zero) ∙ numerator-integer (pos 0)) refl

pub inverse_unique : (a b : ℚ) → a *ℚ b ≡ oneℚ → inverse a ≡ b
inverse_unique a b e =
    let h : ¬ (a ≡ zeroℚ) = λ z. one_is_not_zero (sym e ∙ ap (λ t. t *ℚ b) z ∙ zero-*ℚ b) in
    sym (*ℚ-one (inverse a)) ∙ ap (λ t. inverse a *ℚ t) (sym e) ∙ sym (*ℚ_assoc (inverse a) a b) ∙ ap (λ t. t *ℚ b) (*ℚ_comm (inverse a) a ∙ *ℚ-inverse a h) ∙ one-*ℚ b

-- a product is 0 only where a factor is
pub *ℚ_eq-zero : (a b : ℚ) → a *ℚ b ≡ zeroℚ → (a ≡ zeroℚ) ⊎ (b ≡ zeroℚ)
*ℚ_eq-zero a b e = elim (trichotomy a zeroℚ) [
  | same h ↦ inl h
  | below h ↦ inr (other (λ z. ne_of_lt h z))
  | over h ↦ inr (other (λ z. ne_of_lt h (sym z)))
]
  where
    other : ¬ (a ≡ zeroℚ) → b ≡ zeroℚ
    other h = sym (one-*ℚ b) ∙ ap (λ t. t *ℚ b) (sym (*ℚ_comm (inverse a) a ∙ *ℚ-inverse a h)) ∙ *ℚ_assoc (inverse a) a b ∙ ap (λ t. inverse a *ℚ t) e ∙ *ℚ-zero (inverse a)

pub inverse_nonzero : (a : ℚ) → ¬ (a ≡ zeroℚ) → ¬ (inverse a ≡ zeroℚ)
inverse_nonzero a h e = one_is_not_zero (sym (*ℚ-inverse a h) ∙ ap (λ t. a *ℚ t) e ∙ *ℚ-zero a)

pub inverse_inverse : (a : ℚ) → inverse (inverse a) ≡ a
inverse_inverse a = elim (trichotomy a zeroℚ) [
  | same h ↦ ap (λ t. inverse (inverse t)) h ∙ ap inverse inverse_zero ∙ inverse_zero ∙ sym h
  | below h ↦ inverse_unique (inverse a) a (*ℚ_comm (inverse a) a ∙ *ℚ-inverse a (λ z. ne_of_lt h z))
  | over h ↦ inverse_unique (inverse a) a (*ℚ_comm (inverse a) a ∙ *ℚ-inverse a (λ z. ne_of_lt h (sym z)))
]

-- the inverse has the number's sign
pub inverse_pos : {a : ℚ} → zeroℚ <ℚ a → zeroℚ <ℚ inverse a
inverse_pos {a} h =
    let e = *ℚ-inverse a (λ z. ne_of_lt h (sym z)) in
    lt_of_*ℚ zeroℚ (inverse a) a (≤ℚ_of_lt h) (rw (*ℚ-zero a, e) zero-lt-one)

pub inverse-negate : (a : ℚ) → inverse (negate a) ≡ negate (inverse a)
inverse-negate a = elim (trichotomy a zeroℚ) [
  | same h ↦ ap (λ t. inverse (negate t)) h ∙ ap inverse negate_zero ∙ inverse_zero ∙ sym (ap (λ t. negate (inverse t)) h ∙ ap negate inverse_zero ∙ negate_zero)
  | below h ↦ other (λ z. ne_of_lt h z)
  | over h ↦ other (λ z. ne_of_lt h (sym z))
]
  where
    other : ¬ (a ≡ zeroℚ) → inverse (negate a) ≡ negate (inverse a)
    other h = inverse_unique (negate a) (negate (inverse a)) (negate-*ℚ a (negate (inverse a)) ∙ ap negate (*ℚ-negate a (inverse a)) ∙ negate_negate (a *ℚ inverse a) ∙ *ℚ-inverse a h)

pub inverse_negative : {a : ℚ} → a <ℚ zeroℚ → inverse a <ℚ zeroℚ
inverse_negative {a} h =
    let k : zeroℚ <ℚ inverse (negate a) = inverse_pos (subst (λ t. t <ℚ negate a) negate_zero (negate_strict h)) in
    let m : zeroℚ <ℚ negate (inverse a) = subst (λ t. zeroℚ <ℚ t) (inverse-negate a) k in
    subst (λ t. t <ℚ zeroℚ) (negate_negate (inverse a)) (subst (λ t. negate (negate (inverse a)) <ℚ t) negate_zero (negate_strict m))

-- ---- a bound divided by a positive number

cancelled : (b c : ℚ) → zeroℚ <ℚ c → c *ℚ (b *ℚ inverse c) ≡ b
cancelled b c h =
    ap (λ t. c *ℚ t) (*ℚ_comm b (inverse c)) ∙ sym (*ℚ_assoc c (inverse c) b) ∙ ap (λ t. t *ℚ b) (*ℚ-inverse c (λ z. ne_of_lt h (sym z))) ∙ one-*ℚ b

pub le_divide : (b c x : ℚ) → zeroℚ <ℚ c → c *ℚ x ≤ℚ b → x ≤ℚ b *ℚ inverse c
le_divide b c x h k = le_of_*ℚ x (b *ℚ inverse c) c h (rw (cancelled b c h) k)

pub divide_le : (b c x : ℚ) → zeroℚ <ℚ c → b ≤ℚ c *ℚ x → b *ℚ inverse c ≤ℚ x
divide_le b c x h k = le_of_*ℚ (b *ℚ inverse c) x c h (rw (cancelled b c h) k)

pub le_multiply : (b c x : ℚ) → zeroℚ <ℚ c → x ≤ℚ b *ℚ inverse c → c *ℚ x ≤ℚ b
le_multiply b c x h k = subst (λ t. c *ℚ x ≤ℚ t) (cancelled b c h) (*ℚ_mono x (b *ℚ inverse c) c (≤ℚ_of_lt h) k)

pub multiply_le : (b c x : ℚ) → zeroℚ <ℚ c → b *ℚ inverse c ≤ℚ x → b ≤ℚ c *ℚ x
multiply_le b c x h k = subst (λ t. t ≤ℚ c *ℚ x) (cancelled b c h) (*ℚ_mono (b *ℚ inverse c) x c (≤ℚ_of_lt h) k)

-- ---- signs

pub square_nonneg : (a : ℚ) → zeroℚ ≤ℚ a *ℚ a
square_nonneg a = elim (le_or_lt zeroℚ a) [
  | inl h ↦ *ℚ_nonneg h h
  | inr h ↦
      let k : zeroℚ ≤ℚ negate a = subst (λ t. t ≤ℚ negate a) negate_zero (negate_mono (≤ℚ_of_lt h)) in
      subst (λ t. zeroℚ ≤ℚ t) (negate-*ℚ a (negate a) ∙ ap negate (*ℚ-negate a a) ∙ negate_negate (a *ℚ a)) (*ℚ_nonneg k k)
]

-- a bound times a number that is not positive turns round
pub *ℚ_antitone : (a b c : ℚ) → c ≤ℚ zeroℚ → a ≤ℚ b → c *ℚ b ≤ℚ c *ℚ a
*ℚ_antitone a b c p h =
    let k : zeroℚ ≤ℚ negate c = subst (λ t. t ≤ℚ negate c) negate_zero (negate_mono p) in
    let m : negate (c *ℚ a) ≤ℚ negate (c *ℚ b) = rw (← negate-*ℚ c a, ← negate-*ℚ c b) (*ℚ_mono a b (negate c) k h) in
    subst (λ t. c *ℚ b ≤ℚ t) (negate_negate (c *ℚ a)) (subst (λ t. t ≤ℚ negate (negate (c *ℚ a))) (negate_negate (c *ℚ b)) (negate_mono m))
