-- The laws of sums, differences, products and inverses: a commutative ring in which each number but 0 has an inverse.
use borrow.Author.Differences.{up, down}
use Rattle.std.proofs.Common.{◌≡◌, ℕ, ◌+◌, ◌*◌, ℤ, refl, sym, ap, ap₂, ◌∙◌, arith, zero-lt-suc}
use Rattle.cip_rational.specs.Fraction.{same_equal, ℚ_set, rational_ind}
use Rattle.cip_rational.proofs.Fraction.{rational_ind₂, rational_ind₃}
use Rattle.cip_rational.specs.OnFractions.{add, multiply, opposite}
use Rattle.cip_rational.specs.Rational.{ℚ, ◌+ℚ◌, ◌-ℚ◌, ◌*ℚ◌, negate, ratio, whole, integer, zeroℚ, oneℚ}
use Rattle.cip_rational.proofs.Rational.Ratio.{exact}

-- ---- sums

pub +ℚ_comm : (a b : ℚ) → a +ℚ b ≡ b +ℚ a
unfolding ◌+ℚ◌
+ℚ_comm = rational_ind₂ (λ a b. a +ℚ b ≡ b +ℚ a) (λ a b. ℚ_set _ _) (λ x y. same_equal (add x y) (add y x) (record { cross = omega arith }))

pub +ℚ_assoc : (a b c : ℚ) → a +ℚ b +ℚ c ≡ a +ℚ (b +ℚ c)
unfolding ◌+ℚ◌
+ℚ_assoc =
    rational_ind₃ (λ a b c. a +ℚ b +ℚ c ≡ a +ℚ (b +ℚ c)) (λ a b c. ℚ_set _ _)
    (λ x y z. same_equal (add (add x y) z) (add x (add y z)) (record { cross = omega arith }))

pub +ℚ-zero : (a : ℚ) → a +ℚ zeroℚ ≡ a
unfolding ◌+ℚ◌ zeroℚ whole
+ℚ-zero = rational_ind (λ a. a +ℚ zeroℚ ≡ a) (λ a. ℚ_set _ _) (λ x. same_equal _ _ (record { cross = omega arith }))

pub +ℚ-negate : (a : ℚ) → a +ℚ negate a ≡ zeroℚ
unfolding ◌+ℚ◌ zeroℚ whole negate
+ℚ-negate = rational_ind (λ a. a +ℚ negate a ≡ zeroℚ) (λ a. ℚ_set _ _) (λ x. same_equal (add x (opposite x)) _ (record { cross = omega arith }))

pub sub_is : (a b : ℚ) → a -ℚ b ≡ a +ℚ negate b
unfolding ◌-ℚ◌
sub_is a b = refl

-- ---- products

pub *ℚ_comm : (a b : ℚ) → a *ℚ b ≡ b *ℚ a
unfolding ◌*ℚ◌
*ℚ_comm = rational_ind₂ (λ a b. a *ℚ b ≡ b *ℚ a) (λ a b. ℚ_set _ _) (λ x y. same_equal (multiply x y) (multiply y x) (record { cross = omega arith }))

pub *ℚ_assoc : (a b c : ℚ) → a *ℚ b *ℚ c ≡ a *ℚ (b *ℚ c)
unfolding ◌*ℚ◌
*ℚ_assoc =
    rational_ind₃ (λ a b c. a *ℚ b *ℚ c ≡ a *ℚ (b *ℚ c)) (λ a b c. ℚ_set _ _)
    (λ x y z. same_equal (multiply (multiply x y) z) (multiply x (multiply y z)) (record { cross = omega arith }))

pub *ℚ-one : (a : ℚ) → a *ℚ oneℚ ≡ a
unfolding ◌*ℚ◌ oneℚ whole
*ℚ-one = rational_ind (λ a. a *ℚ oneℚ ≡ a) (λ a. ℚ_set _ _) (λ x. same_equal _ _ (record { cross = omega arith }))

pub *ℚ-zero : (a : ℚ) → a *ℚ zeroℚ ≡ zeroℚ
unfolding ◌*ℚ◌ zeroℚ whole
*ℚ-zero = rational_ind (λ a. a *ℚ zeroℚ ≡ zeroℚ) (λ a. ℚ_set _ _) (λ x. same_equal _ _ (record { cross = omega arith }))

pub *ℚ-add : (a b c : ℚ) → a *ℚ (b +ℚ c) ≡ a *ℚ b +ℚ a *ℚ c
unfolding ◌*ℚ◌ ◌+ℚ◌
*ℚ-add =
    rational_ind₃ (λ a b c. a *ℚ (b +ℚ c) ≡ a *ℚ b +ℚ a *ℚ c) (λ a b c. ℚ_set _ _)
    (λ x y z. same_equal (multiply x (add y z)) (add (multiply x y) (multiply x z)) (record { cross = omega arith }))

pub zero-+ℚ : (a : ℚ) → zeroℚ +ℚ a ≡ a
zero-+ℚ a = +ℚ_comm zeroℚ a ∙ +ℚ-zero a

pub one-*ℚ : (a : ℚ) → oneℚ *ℚ a ≡ a
one-*ℚ a = *ℚ_comm oneℚ a ∙ *ℚ-one a

pub zero-*ℚ : (a : ℚ) → zeroℚ *ℚ a ≡ zeroℚ
zero-*ℚ a = *ℚ_comm zeroℚ a ∙ *ℚ-zero a

pub add-*ℚ : (a b c : ℚ) → (a +ℚ b) *ℚ c ≡ a *ℚ c +ℚ b *ℚ c
add-*ℚ a b c = *ℚ_comm (a +ℚ b) c ∙ *ℚ-add c a b ∙ ap₂ (λ s t. s +ℚ t) (*ℚ_comm c a) (*ℚ_comm c b)

-- ---- negatives and differences

pub negate-add : (a b : ℚ) → negate (a +ℚ b) ≡ negate a +ℚ negate b
unfolding negate ◌+ℚ◌
negate-add =
    rational_ind₂ (λ a b. negate (a +ℚ b) ≡ negate a +ℚ negate b) (λ a b. ℚ_set _ _)
    (λ x y. same_equal (opposite (add x y)) (add (opposite x) (opposite y)) (record { cross = omega arith }))

pub negate_negate : (a : ℚ) → negate (negate a) ≡ a
unfolding negate
negate_negate = rational_ind (λ a. negate (negate a) ≡ a) (λ a. ℚ_set _ _) (λ x. same_equal (opposite (opposite x)) x (record { cross = omega arith }))

pub *ℚ-negate : (a b : ℚ) → a *ℚ negate b ≡ negate (a *ℚ b)
unfolding negate ◌*ℚ◌
*ℚ-negate =
    rational_ind₂ (λ a b. a *ℚ negate b ≡ negate (a *ℚ b)) (λ a b. ℚ_set _ _)
    (λ x y. same_equal (multiply x (opposite y)) (opposite (multiply x y)) (record { cross = omega arith }))

pub negate-*ℚ : (a b : ℚ) → negate a *ℚ b ≡ negate (a *ℚ b)
negate-*ℚ a b = *ℚ_comm (negate a) b ∙ *ℚ-negate b a ∙ ap negate (*ℚ_comm b a)

pub negate_zero : negate zeroℚ ≡ zeroℚ
unfolding negate zeroℚ whole
negate_zero = refl

pub *ℚ-sub : (a b c : ℚ) → a *ℚ (b -ℚ c) ≡ a *ℚ b -ℚ a *ℚ c
unfolding ◌-ℚ◌
*ℚ-sub a b c = *ℚ-add a b (negate c) ∙ ap (λ t. a *ℚ b +ℚ t) (*ℚ-negate a c)

pub sub-*ℚ : (a b c : ℚ) → (a -ℚ b) *ℚ c ≡ a *ℚ c -ℚ b *ℚ c
unfolding ◌-ℚ◌
sub-*ℚ a b c = add-*ℚ a (negate b) c ∙ ap (λ t. a *ℚ c +ℚ t) (negate-*ℚ b c)

pub sub_self : (a : ℚ) → a -ℚ a ≡ zeroℚ
unfolding ◌-ℚ◌
sub_self = +ℚ-negate

-- equal sums with one part in common have the other in common
pub +ℚ_cancel : (a b c : ℚ) → a +ℚ c ≡ b +ℚ c → a ≡ b
+ℚ_cancel a b c e = sym (back a) ∙ ap (λ t. t +ℚ negate c) e ∙ back b
  where
    back : (t : ℚ) → t +ℚ c +ℚ negate c ≡ t
    back t = +ℚ_assoc t c (negate c) ∙ ap (λ s. t +ℚ s) (+ℚ-negate c) ∙ +ℚ-zero t

-- ---- whole numbers

pub zero_is : zeroℚ ≡ whole 0 0
unfolding zeroℚ
zero_is = refl

pub one_is : oneℚ ≡ whole 1 0
unfolding oneℚ
one_is = refl

pub whole_same : (a b c d : ℕ) → a + d ≡ c + b → whole a b ≡ whole c d
unfolding whole
whole_same a b c d e = same_equal _ _ (record { cross = omega (arith, e) })

pub same_whole : (a b c d : ℕ) → whole a b ≡ whole c d → a + d ≡ c + b
unfolding whole
same_whole a b c d e = omega (arith, (exact _ _ e).cross)

pub whole_add : (a b c d : ℕ) → whole a b +ℚ whole c d ≡ whole (a + c) (b + d)
unfolding whole ◌+ℚ◌
whole_add a b c d = same_equal (add (record { up = a; down = b; den = 1; positive = zero-lt-suc 0 }) (record { up = c; down = d; den = 1; positive = zero-lt-suc 0 })) _ (record { cross = omega arith })

pub whole_mul : (a b c d : ℕ) → whole a b *ℚ whole c d ≡ whole (a * c + b * d) (a * d + b * c)
unfolding whole ◌*ℚ◌
whole_mul a b c d = same_equal (multiply (record { up = a; down = b; den = 1; positive = zero-lt-suc 0 }) (record { up = c; down = d; den = 1; positive = zero-lt-suc 0 })) _ (record { cross = omega arith })

pub whole_negate : (a b : ℕ) → negate (whole a b) ≡ whole b a
unfolding whole negate
whole_negate a b = refl

pub integer_is : (z : ℤ) → integer z ≡ whole (up z) (down z)
unfolding whole integer ratio
integer_is z = refl

-- one is not zero
pub one_is_not_zero : ¬ (oneℚ ≡ zeroℚ)
unfolding oneℚ zeroℚ
one_is_not_zero e = absurd (omega (arith, same_whole 1 0 0 0 e))

-- ---- normal forms

pub +ℚ_left_comm : (a b c : ℚ) → a +ℚ (b +ℚ c) ≡ b +ℚ (a +ℚ c)
+ℚ_left_comm a b c = sym (+ℚ_assoc a b c) ∙ ap (λ t. t +ℚ c) (+ℚ_comm a b) ∙ +ℚ_assoc b a c

pub *ℚ_left_comm : (a b c : ℚ) → a *ℚ (b *ℚ c) ≡ b *ℚ (a *ℚ c)
*ℚ_left_comm a b c = sym (*ℚ_assoc a b c) ∙ ap (λ t. t *ℚ c) (*ℚ_comm a b) ∙ *ℚ_assoc b a c

-- for `simp`: products of sums are multiplied out, and sums and products sorted
pub ruleset ring_laws = (add-*ℚ, *ℚ-add, *ℚ_assoc, *ℚ_comm, *ℚ_left_comm, +ℚ_assoc, +ℚ_comm, +ℚ_left_comm, +ℚ-zero, zero-+ℚ, *ℚ-zero, zero-*ℚ, *ℚ-one, one-*ℚ)
