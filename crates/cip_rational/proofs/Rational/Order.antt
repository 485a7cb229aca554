-- The laws of the order.
use mathlib.Core.HLevel.{Π_prop}
use lib.Dec.{T_prop, not_T, T_not, nleb→lt}
use native.Mathlib.Nat.{le_of_mul-le-mul_right, mul-le-mul_right}
use Rattle.std.proofs.Common.{◌≡◌, ◌⊎◌, inl, inr, ◌+◌, ◌*◌, ◌<◌, ◌≤◌, Bool, true, false, not, T, leb→le, le→leb, true≢false, refl, sym, ◌∙◌, subst, arith}
use Rattle.cip_rational.specs.Fraction.{Fraction, of, same_equal, ℚ_set, rational_ind}
use Rattle.cip_rational.proofs.Fraction.{rational_ind₂, rational_ind₃}
use Rattle.cip_rational.specs.OnFractions.{fraction_at_most}
use Rattle.cip_rational.specs.Rational.{ℚ, le_test, lt_test, ◌≤ℚ◌, ◌<ℚ◌}
use Rattle.cip_rational.proofs.Rational.Ratio.{same_truth}

pub ≤ℚ_prop : {a b : ℚ} → IsProp (a ≤ℚ b)
≤ℚ_prop {a} {b} x y = λ i. record { le = T_prop (le_test a b) x.le y.le i }

pub <ℚ_prop : {a b : ℚ} → IsProp (a <ℚ b)
<ℚ_prop {a} {b} x y = λ i. record { lt = T_prop (lt_test a b) x.lt y.lt i }

-- ---- the order of fractions, by cross products

pub le_in : (x y : Fraction) → x.up * y.den + y.down * x.den ≤ y.up * x.den + x.down * y.den → of x ≤ℚ of y
unfolding le_test
le_in x y h = record { le = le→leb (x.up * y.den + y.down * x.den) (y.up * x.den + x.down * y.den) h }

pub le_out : (x y : Fraction) → of x ≤ℚ of y → x.up * y.den + y.down * x.den ≤ y.up * x.den + x.down * y.den
unfolding le_test
le_out x y h = leb→le (x.up * y.den + y.down * x.den) (y.up * x.den + x.down * y.den) h.le

pub lt_in : (x y : Fraction) → x.up * y.den + y.down * x.den < y.up * x.den + x.down * y.den → of x <ℚ of y
unfolding lt_test le_test
lt_in x y h = record { lt = not_T (fraction_at_most y x) (λ t. absurd (omega (arith, h, leb→le (y.up * x.den + x.down * y.den) (x.up * y.den + y.down * x.den) t))) }

pub lt_out : (x y : Fraction) → of x <ℚ of y → x.up * y.den + y.down * x.den < y.up * x.den + x.down * y.den
unfolding lt_test le_test
lt_out x y h = omega (arith, nleb→lt (y.up * x.den + x.down * y.den) (x.up * y.den + y.down * x.den) h.lt)

-- ---- a total order

pub lt_of_not_le : (a b : ℚ) → ¬ (a ≤ℚ b) → b <ℚ a
unfolding lt_test
lt_of_not_le a b h = record { lt = not_T (le_test a b) (λ t. h (record { le = t })) }

pub not_le_of_lt : {a b : ℚ} → b <ℚ a → ¬ (a ≤ℚ b)
unfolding lt_test
not_le_of_lt {a} {b} h k = T_not (le_test a b) h.lt k.le

pub le_or_lt : (a b : ℚ) → (a ≤ℚ b) ⊎ (b <ℚ a)
unfolding lt_test
le_or_lt a b = go (le_test a b) refl
  where
    go : (t : Bool) → le_test a b ≡ t → (a ≤ℚ b) ⊎ (b <ℚ a)
    go true e = inl (record { le = subst T (sym e) tt })
    go false e = inr (record { lt = subst (λ t. T (not t)) (sym e) tt })

pub ≤ℚ_refl : (a : ℚ) → a ≤ℚ a
≤ℚ_refl = rational_ind (λ a. a ≤ℚ a) (λ a. ≤ℚ_prop) (λ x. le_in x x (omega arith))

pub ≤ℚ_of_eq : {a b : ℚ} → a ≡ b → a ≤ℚ b
≤ℚ_of_eq {a} e = subst (λ b. a ≤ℚ b) e (≤ℚ_refl a)

pub ≤ℚ_antisymm : {a b : ℚ} → a ≤ℚ b → b ≤ℚ a → a ≡ b
≤ℚ_antisymm {a} {b} =
    rational_ind₂ (λ a b. a ≤ℚ b → b ≤ℚ a → a ≡ b) (λ a b. Π_prop (λ _. Π_prop (λ _. ℚ_set a b)))
    (λ x y h k. same_equal x y (record { cross = omega (arith, le_out x y h, le_out y x k) })) a b

pub ≤ℚ_trans : {a b c : ℚ} → a ≤ℚ b → b ≤ℚ c → a ≤ℚ c
≤ℚ_trans {a} {b} {c} =
    rational_ind₃ (λ a b c. a ≤ℚ b → b ≤ℚ c → a ≤ℚ c) (λ a b c. Π_prop (λ _. Π_prop (λ _. ≤ℚ_prop)))
    (λ x y z h k. le_in x z (le_of_mul-le-mul_right {k = y.den} (omega (arith, mul-le-mul_right z.den (le_out x y h), mul-le-mul_right x.den (le_out y z k))) y.positive)) a b c

pub ≤ℚ_of_lt : {a b : ℚ} → a <ℚ b → a ≤ℚ b
≤ℚ_of_lt {a} {b} =
    rational_ind₂ (λ a b. a <ℚ b → a ≤ℚ b) (λ a b. Π_prop (λ _. ≤ℚ_prop)) (λ x y h. le_in x y (omega (arith, lt_out x y h))) a b

pub <ℚ_of_le_of_lt : {a b c : ℚ} → a ≤ℚ b → b <ℚ c → a <ℚ c
<ℚ_of_le_of_lt {a} {b} {c} h k = lt_of_not_le c a (λ l. not_le_of_lt k (≤ℚ_trans l h))

pub <ℚ_of_lt_of_le : {a b c : ℚ} → a <ℚ b → b ≤ℚ c → a <ℚ c
<ℚ_of_lt_of_le {a} {b} {c} h k = lt_of_not_le c a (λ l. not_le_of_lt h (≤ℚ_trans k l))

pub <ℚ_trans : {a b c : ℚ} → a <ℚ b → b <ℚ c → a <ℚ c
<ℚ_trans h k = <ℚ_of_lt_of_le h (≤ℚ_of_lt k)

pub <ℚ_irrefl : (a : ℚ) → ¬ (a <ℚ a)
<ℚ_irrefl a h = not_le_of_lt h (≤ℚ_refl a)

pub ne_of_lt : {a b : ℚ} → a <ℚ b → ¬ (a ≡ b)
ne_of_lt {a} h e = not_le_of_lt h (≤ℚ_of_eq (sym e))

pub le_of_not_lt : (a b : ℚ) → ¬ (a <ℚ b) → b ≤ℚ a
le_of_not_lt a b h = elim (le_or_lt b a) [ inl k ↦ k | inr k ↦ absurd (h k) ]

pub ≤ℚ_total : (a b : ℚ) → (a ≤ℚ b) ⊎ (b ≤ℚ a)
≤ℚ_total a b = elim (le_or_lt a b) [ inl h ↦ inl h | inr h ↦ inr (≤ℚ_of_lt h) ]

pub eq-or-lt : {a b : ℚ} → a ≤ℚ b → (a ≡ b) ⊎ (a <ℚ b)
eq-or-lt {a} {b} h = elim (le_or_lt b a) [ inl k ↦ inl (≤ℚ_antisymm h k) | inr k ↦ inr k ]

-- ---- what the tests say

pub le_of_test : {a b : ℚ} → le_test a b ≡ true → a ≤ℚ b
le_of_test e = record { le = subst T (sym e) tt }

pub test_of_le : {a b : ℚ} → a ≤ℚ b → le_test a b ≡ true
test_of_le {a} {b} h = same_truth (le_test a b) true (λ _. tt) (λ _. h.le)

pub lt_of_le_test : {a b : ℚ} → le_test a b ≡ false → b <ℚ a
unfolding lt_test
lt_of_le_test {a} {b} e = record { lt = subst (λ t. T (not t)) (sym e) tt }

pub le_test_of_lt : {a b : ℚ} → b <ℚ a → le_test a b ≡ false
le_test_of_lt {a} {b} h = same_truth (le_test a b) false (λ t. absurd (not_le_of_lt h (record { le = t }))) (λ t. absurd t)

lt_of_test_T : (a b : ℚ) → T (lt_test a b) → a <ℚ b
lt_of_test_T a b t = record { lt = t }

pub lt_of_test : {a b : ℚ} → lt_test a b ≡ true → a <ℚ b
lt_of_test e = record { lt = subst T (sym e) tt }

pub test_of_lt : {a b : ℚ} → a <ℚ b → lt_test a b ≡ true
test_of_lt {a} {b} h = same_truth (lt_test a b) true (λ _. tt) (λ _. h.lt)

pub le_of_lt_test : {a b : ℚ} → lt_test a b ≡ false → b ≤ℚ a
le_of_lt_test {a} {b} e = elim (le_or_lt b a) [ inl h ↦ h | inr h ↦ absurd (true≢false (sym (test_of_lt h) ∙ e)) ]

pub lt_test_of_le : {a b : ℚ} → b ≤ℚ a → lt_test a b ≡ false
lt_test_of_le {a} {b} h = same_truth (lt_test a b) false (λ t. absurd (not_le_of_lt (lt_of_test_T a b t) h)) (λ t. absurd t)
