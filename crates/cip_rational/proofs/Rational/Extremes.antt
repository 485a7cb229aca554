-- The laws of the minimum, the maximum and the absolute value.
use Rattle.std.proofs.Common.{◌≡◌, ◌⊎◌, inl, inr, [], ◌∷◌, cond, ap, ◌∙◌, arith}
use Rattle.cip_rational.specs.Rational.{ℚ, ◌+ℚ◌, negate, zeroℚ, absolute, minimum, maximum, ◌≤ℚ◌, ◌<ℚ◌}
use Rattle.cip_rational.proofs.Rational.Order.{≤ℚ_antisymm, le_or_lt, test_of_le, le_test_of_lt, ≤ℚ_refl, ≤ℚ_total}
use Rattle.cip_rational.proofs.Rational.Ring.{negate_negate}
use Rattle.cip_rational.proofs.Linear.{linear_le}

pub minimum_left : {a b : ℚ} → a ≤ℚ b → minimum a b ≡ a
minimum_left {a} {b} h = ap (λ t. cond t a b) (test_of_le h)

pub minimum_right : {a b : ℚ} → b ≤ℚ a → minimum a b ≡ b
minimum_right {a} {b} h = elim (le_or_lt a b) [
  | inl k ↦ ap (λ t. cond t a b) (test_of_le k) ∙ ≤ℚ_antisymm k h
  | inr k ↦ ap (λ t. cond t a b) (le_test_of_lt k)
]

pub maximum_left : {a b : ℚ} → b ≤ℚ a → maximum a b ≡ a
maximum_left {a} {b} h = elim (le_or_lt a b) [
  | inl k ↦ ap (λ t. cond t b a) (test_of_le k) ∙ ≤ℚ_antisymm h k
  | inr k ↦ ap (λ t. cond t b a) (le_test_of_lt k)
]

pub maximum_right : {a b : ℚ} → a ≤ℚ b → maximum a b ≡ b
maximum_right {a} {b} h = ap (λ t. cond t b a) (test_of_le h)

-- it is one of the two
pub minimum_either : (a b : ℚ) → (minimum a b ≡ a) ⊎ (minimum a b ≡ b)
minimum_either a b = elim (≤ℚ_total a b) [ inl h ↦ inl (minimum_left h) | inr h ↦ inr (minimum_right h) ]

pub maximum_either : (a b : ℚ) → (maximum a b ≡ a) ⊎ (maximum a b ≡ b)
maximum_either a b = elim (≤ℚ_total a b) [ inl h ↦ inr (maximum_right h) | inr h ↦ inl (maximum_left h) ]

pub minimum_le : (a b : ℚ) → (minimum a b ≤ℚ a) × (minimum a b ≤ℚ b)
minimum_le a b = elim (≤ℚ_total a b) [
  | inl h ↦ rw (minimum_left h) (≤ℚ_refl a, h)
  | inr h ↦ rw (minimum_right h) (h, ≤ℚ_refl b)
]

pub maximum_ge : (a b : ℚ) → (a ≤ℚ maximum a b) × (b ≤ℚ maximum a b)
maximum_ge a b = elim (≤ℚ_total a b) [
  | inl h ↦ rw (maximum_right h) (h, ≤ℚ_refl b)
  | inr h ↦ rw (maximum_left h) (≤ℚ_refl a, h)
]

pub le_minimum : {a b c : ℚ} → c ≤ℚ a → c ≤ℚ b → c ≤ℚ minimum a b
le_minimum {a} {b} {c} h k = elim (minimum_either a b) [ inl e ↦ rw e h | inr e ↦ rw e k ]

pub maximum_le : {a b c : ℚ} → a ≤ℚ c → b ≤ℚ c → maximum a b ≤ℚ c
maximum_le {a} {b} {c} h k = elim (maximum_either a b) [ inl e ↦ rw e h | inr e ↦ rw e k ]

pub minimum_comm : (a b : ℚ) → minimum a b ≡ minimum b a
minimum_comm a b = ≤ℚ_antisymm (le_minimum (minimum_le a b).1 (minimum_le a b).0) (le_minimum (minimum_le b a).1 (minimum_le b a).0)

pub maximum_comm : (a b : ℚ) → maximum a b ≡ maximum b a
maximum_comm a b = ≤ℚ_antisymm (maximum_le (maximum_ge b a).1 (maximum_ge b a).0) (maximum_le (maximum_ge a b).1 (maximum_ge a b).0)

-- ---- the absolute value

pub absolute_nonneg : {a : ℚ} → zeroℚ ≤ℚ a → absolute a ≡ a
unfolding absolute
absolute_nonneg {a} h = ap (λ t. cond t a (negate a)) (test_of_le h)

pub absolute_negative : {a : ℚ} → a <ℚ zeroℚ → absolute a ≡ negate a
unfolding absolute
absolute_negative {a} h = ap (λ t. cond t a (negate a)) (le_test_of_lt h)

-- the lesser bounds: it is at least a and at least the negative of a
pub absolute_ge : (a : ℚ) → (a ≤ℚ absolute a) × (negate a ≤ℚ absolute a)
absolute_ge a = elim (le_or_lt zeroℚ a) [
  | inl h ↦ rw (absolute_nonneg h) (≤ℚ_refl a, linear_le (a ∷ []) (λ s w. omega (arith, s.le_out)))
  | inr h ↦ rw (absolute_negative h) (linear_le (a ∷ []) (λ s w. omega (arith, s.lt_out)), ≤ℚ_refl (negate a))
]

pub absolute_le : {a b : ℚ} → a ≤ℚ b → negate a ≤ℚ b → absolute a ≤ℚ b
absolute_le {a} {b} h k = elim (le_or_lt zeroℚ a) [ inl l ↦ rw (absolute_nonneg l) h | inr l ↦ rw (absolute_negative l) k ]

pub zero-le-absolute : (a : ℚ) → zeroℚ ≤ℚ absolute a
zero-le-absolute a = let h = absolute_ge a in linear_le (a ∷ absolute a ∷ []) (λ s w. omega (arith, s.le_out))

pub absolute-negate : (a : ℚ) → absolute (negate a) ≡ absolute a
absolute-negate a =
    ≤ℚ_antisymm
    (absolute_le (absolute_ge a).1 (rw (negate_negate a) (absolute_ge a).0))
    (absolute_le (let h = (absolute_ge (negate a)).1 in rw (negate_negate a) at h) (absolute_ge (negate a)).0)

-- the triangle's inequality
pub absolute-add : (a b : ℚ) → absolute (a +ℚ b) ≤ℚ absolute a +ℚ absolute b
absolute-add a b =
    let h = absolute_ge a in
    let k = absolute_ge b in
    absolute_le
    (linear_le (a ∷ b ∷ absolute a ∷ absolute b ∷ []) (λ s w. omega (arith, s.le_out)))
    (linear_le (a ∷ b ∷ absolute a ∷ absolute b ∷ []) (λ s w. omega (arith, s.le_out)))
