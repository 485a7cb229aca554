-- How sums and products keep the order.
use mathlib.Core.HLevel.{Π_prop}
use native.Mathlib.Nat.{mul-pos, mul-le-mul_right, mul-lt-mul_of_pos_right}
use Rattle.std.proofs.Common.{◌≡◌, inl, inr, ℕ, ◌+◌, ◌-◌, ◌*◌, ◌<◌, ◌≤◌, sym, ap, subst, arith}
use Rattle.cip_rational.proofs.Fraction.{rational_ind₂, rational_ind₃}
use Rattle.cip_rational.specs.OnFractions.{add, multiply, opposite}
use Rattle.cip_rational.specs.Rational.{ℚ, ◌+ℚ◌, ◌*ℚ◌, negate, whole, zeroℚ, oneℚ, ◌≤ℚ◌, ◌<ℚ◌}
use Rattle.cip_rational.proofs.Rational.Order.{≤ℚ_prop, <ℚ_prop, le_in, le_out, lt_in, lt_out, ≤ℚ_trans, <ℚ_of_lt_of_le, le_or_lt, not_le_of_lt, lt_of_not_le, ≤ℚ_antisymm, ≤ℚ_of_eq}
use Rattle.cip_rational.proofs.Rational.Ring.{+ℚ_comm, *ℚ-zero}

-- ---- sums

add_right_mono : (a b c : ℚ) → a ≤ℚ b → a +ℚ c ≤ℚ b +ℚ c
unfolding ◌+ℚ◌
add_right_mono =
    rational_ind₃ (λ a b c. a ≤ℚ b → a +ℚ c ≤ℚ b +ℚ c) (λ a b c. Π_prop (λ _. ≤ℚ_prop))
    (λ x y z h. le_in (add x z) (add y z) (omega (arith, mul-le-mul_right (z.den * z.den) (le_out x y h))))

add_right_strict : (a b c : ℚ) → a <ℚ b → a +ℚ c <ℚ b +ℚ c
unfolding ◌+ℚ◌
add_right_strict =
    rational_ind₃ (λ a b c. a <ℚ b → a +ℚ c <ℚ b +ℚ c) (λ a b c. Π_prop (λ _. <ℚ_prop))
    (λ x y z h. lt_in (add x z) (add y z) (omega (arith, mul-lt-mul_of_pos_right (lt_out x y h) (mul-pos z.positive z.positive))))

pub +ℚ_mono : {a b c d : ℚ} → a ≤ℚ b → c ≤ℚ d → a +ℚ c ≤ℚ b +ℚ d
+ℚ_mono {a} {b} {c} {d} h k =
    ≤ℚ_trans (add_right_mono a b c h) (rw (+ℚ_comm b c, +ℚ_comm b d) (add_right_mono c d b k))

pub +ℚ_strict : {a b c d : ℚ} → a <ℚ b → c ≤ℚ d → a +ℚ c <ℚ b +ℚ d
+ℚ_strict {a} {b} {c} {d} h k =
    <ℚ_of_lt_of_le (add_right_strict a b c h) (rw (+ℚ_comm b c, +ℚ_comm b d) (add_right_mono c d b k))

pub negate_mono : {a b : ℚ} → a ≤ℚ b → negate b ≤ℚ negate a
unfolding negate
negate_mono {a} {b} =
    rational_ind₂ (λ a b. a ≤ℚ b → negate b ≤ℚ negate a) (λ a b. Π_prop (λ _. ≤ℚ_prop))
    (λ x y h. le_in (opposite y) (opposite x) (omega (arith, le_out x y h))) a b

pub negate_strict : {a b : ℚ} → a <ℚ b → negate b <ℚ negate a
unfolding negate
negate_strict {a} {b} =
    rational_ind₂ (λ a b. a <ℚ b → negate b <ℚ negate a) (λ a b. Π_prop (λ _. <ℚ_prop))
    (λ x y h. lt_in (opposite y) (opposite x) (omega (arith, lt_out x y h))) a b

-- ---- products

-- (p - q) times a, where q is at most p
scaled : (p q a b : ℕ) → q ≤ p → a ≤ b → p * a + q * b ≤ p * b + q * a
scaled p q a b h k =
    let e : q + (p - q) ≡ p = omega arith in
    omega (arith, ap (λ t. t * a) e, ap (λ t. t * b) e, mul-le-mul_right (p - q) k)

scaled_strictly : (p q a b : ℕ) → q < p → a < b → p * a + q * b < p * b + q * a
scaled_strictly p q a b h k =
    let e : q + (p - q) ≡ p = omega arith in
    let s : 0 < p - q = omega arith in
    omega (arith, ap (λ t. t * a) e, ap (λ t. t * b) e, mul-lt-mul_of_pos_right k s)

-- a bound times a number that is not negative
pub *ℚ_mono : (a b c : ℚ) → zeroℚ ≤ℚ c → a ≤ℚ b → c *ℚ a ≤ℚ c *ℚ b
unfolding ◌*ℚ◌ zeroℚ whole
*ℚ_mono =
    rational_ind₃ (λ a b c. zeroℚ ≤ℚ c → a ≤ℚ b → c *ℚ a ≤ℚ c *ℚ b) (λ a b c. Π_prop (λ _. Π_prop (λ _. ≤ℚ_prop)))
    (λ x y z p h.
    let q : z.down ≤ z.up = omega (arith, le_out _ z p) in
    le_in (multiply z x) (multiply z y) (omega (arith, mul-le-mul_right z.den (scaled z.up z.down _ _ q (le_out x y h)))))

pub *ℚ_strict : (a b c : ℚ) → zeroℚ <ℚ c → a <ℚ b → c *ℚ a <ℚ c *ℚ b
unfolding ◌*ℚ◌ zeroℚ whole
*ℚ_strict =
    rational_ind₃ (λ a b c. zeroℚ <ℚ c → a <ℚ b → c *ℚ a <ℚ c *ℚ b) (λ a b c. Π_prop (λ _. Π_prop (λ _. <ℚ_prop)))
    (λ x y z p h.
    let q : z.down < z.up = omega (arith, lt_out _ z p) in
    lt_in (multiply z x) (multiply z y) (omega (arith, mul-lt-mul_of_pos_right (scaled_strictly z.up z.down _ _ q (lt_out x y h)) z.positive)))

pub *ℚ_nonneg : {a b : ℚ} → zeroℚ ≤ℚ a → zeroℚ ≤ℚ b → zeroℚ ≤ℚ a *ℚ b
*ℚ_nonneg {a} {b} p q = subst (λ t. t ≤ℚ a *ℚ b) (*ℚ-zero a) (*ℚ_mono zeroℚ b a p q)

pub *ℚ_pos : {a b : ℚ} → zeroℚ <ℚ a → zeroℚ <ℚ b → zeroℚ <ℚ a *ℚ b
*ℚ_pos {a} {b} p q = subst (λ t. t <ℚ a *ℚ b) (*ℚ-zero a) (*ℚ_strict zeroℚ b a p q)

-- a positive factor cancels
pub le_of_*ℚ : (a b c : ℚ) → zeroℚ <ℚ c → c *ℚ a ≤ℚ c *ℚ b → a ≤ℚ b
le_of_*ℚ a b c p h = elim (le_or_lt a b) [
  | inl k ↦ k
  | inr k ↦ absurd (not_le_of_lt (*ℚ_strict b a c p k) h)
]

pub lt_of_*ℚ : (a b c : ℚ) → zeroℚ ≤ℚ c → c *ℚ a <ℚ c *ℚ b → a <ℚ b
lt_of_*ℚ a b c p h = lt_of_not_le b a (λ k. not_le_of_lt h (*ℚ_mono b a c p k))

pub eq_of_*ℚ : (a b c : ℚ) → zeroℚ <ℚ c → c *ℚ a ≡ c *ℚ b → a ≡ b
eq_of_*ℚ a b c p e = ≤ℚ_antisymm (le_of_*ℚ a b c p (≤ℚ_of_eq e)) (le_of_*ℚ b a c p (≤ℚ_of_eq (sym e)))

-- ---- whole numbers

pub whole_le : (a b c d : ℕ) → a + d ≤ c + b → whole a b ≤ℚ whole c d
unfolding whole
whole_le a b c d h = le_in _ _ (omega arith)

pub le_whole : (a b c d : ℕ) → whole a b ≤ℚ whole c d → a + d ≤ c + b
unfolding whole
le_whole a b c d h = omega (arith, le_out _ _ h)

pub whole_lt : (a b c d : ℕ) → a + d < c + b → whole a b <ℚ whole c d
unfolding whole
whole_lt a b c d h = lt_in _ _ (omega arith)

pub lt_whole : (a b c d : ℕ) → whole a b <ℚ whole c d → a + d < c + b
unfolding whole
lt_whole a b c d h = omega (arith, lt_out _ _ h)

pub zero-lt-one : zeroℚ <ℚ oneℚ
unfolding zeroℚ oneℚ
zero-lt-one = whole_lt 0 0 1 0 (omega arith)
