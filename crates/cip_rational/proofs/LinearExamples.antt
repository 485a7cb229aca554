-- Linear arithmetic over ℚ, tried on the forms that proofs meet.
use Rattle.std.proofs.Common.{◌≡◌, ◌∙◌, ◌⊎◌, [], ◌∷◌, arith}
use Rattle.cip_rational.specs.Rational.{ℚ, ◌+ℚ◌, ◌-ℚ◌, ◌*ℚ◌, negate, whole, zeroℚ, oneℚ, ◌≤ℚ◌, ◌<ℚ◌}
use Rattle.cip_rational.proofs.Rational.Monotone.{*ℚ_mono}
use Rattle.cip_rational.proofs.Rational.Ring.{*ℚ_comm, ring_laws}
use Rattle.cip_rational.proofs.Linear.{linear_le, linear_lt, linear_same, linear_absurd}

chain : (a b c d : ℚ) → a +ℚ b ≤ℚ c → d ≤ℚ b → a +ℚ d ≤ℚ c
chain a b c d h k = linear_le (a ∷ b ∷ c ∷ d ∷ []) (λ s w. omega (arith, s.le_out))

strictly : (a b c : ℚ) → a <ℚ b → b ≤ℚ c → a +ℚ oneℚ <ℚ c +ℚ oneℚ
strictly a b c h k = linear_lt (a ∷ b ∷ c ∷ []) (λ s w. omega (arith, s.le_out, s.lt_out))

regrouped : (a b c : ℚ) → a -ℚ (b -ℚ c) ≡ a +ℚ c -ℚ b
regrouped a b c = linear_same (a ∷ b ∷ c ∷ []) (λ s w. omega arith)

clash : (a b : ℚ) → a <ℚ b → b <ℚ a → ⊥
clash a b h k = linear_absurd (a ∷ b ∷ []) (λ s w. omega (arith, s.lt_out))

half_step : (a : ℚ) → whole 2 0 *ℚ a ≤ℚ oneℚ → whole 4 0 *ℚ a ≤ℚ whole 2 0
half_step a h = linear_le (a ∷ []) (λ s w. omega (arith, s.le_out))

denied : (a b : ℚ) → ¬ (a ≤ℚ b) → b +ℚ negate a ≤ℚ zeroℚ
denied a b h = linear_le (a ∷ b ∷ []) (λ s w. omega (arith, s.not_le_out))

row : (y b r s t : ℚ) → zeroℚ ≤ℚ y → b ≤ℚ r → s ≤ℚ t → y *ℚ b +ℚ s ≤ℚ y *ℚ r +ℚ t
row y b r s t p h k =
    let m = *ℚ_mono b r y p h in
    linear_le ((y *ℚ b) ∷ (y *ℚ r) ∷ s ∷ t ∷ []) (λ s w. omega (arith, s.le_out))

multiplied_out : (a b c : ℚ) → (a +ℚ b) *ℚ c -ℚ a *ℚ c ≡ b *ℚ c
multiplied_out a b c = linear_same ((a *ℚ c) ∷ (b *ℚ c) ∷ []) (λ s w. let m = s.products tt in omega arith)

commuted : (a b c : ℚ) → a *ℚ b ≤ℚ c → b *ℚ a -ℚ c ≤ℚ zeroℚ
commuted a b c h = let e = *ℚ_comm a b in linear_le ((a *ℚ b) ∷ c ∷ []) (λ s w. omega (arith, s.le_out, s.same_out))

cases : (a b c : ℚ) → (a ≤ℚ b) ⊎ (a ≤ℚ c) → b ≤ℚ c → a ≤ℚ c
cases a b c h k = linear_le (a ∷ b ∷ c ∷ []) (λ s w. omega (arith, s.le_out))

-- four terms a side, with products and differences
long : (a b c d e f g h : ℚ) → a +ℚ b +ℚ c +ℚ d ≤ℚ e +ℚ f → e ≤ℚ g -ℚ h → f ≤ℚ h +ℚ d → a +ℚ b +ℚ c ≤ℚ g
long a b c d e f g h p q r = linear_le (a ∷ b ∷ c ∷ d ∷ e ∷ f ∷ g ∷ h ∷ []) (λ s w. omega (arith, s.le_out))

-- whole numbers of other sizes
thirds : (a b : ℚ) → whole 3 0 *ℚ a +ℚ whole 2 0 *ℚ b ≤ℚ whole 7 0 → whole 1 0 ≤ℚ b → a <ℚ whole 2 0
thirds a b p q = linear_lt (a ∷ b ∷ []) (λ s w. omega (arith, s.le_out))

-- a negative multiple
turned : (a b : ℚ) → whole 0 2 *ℚ a ≤ℚ whole 0 2 *ℚ b → b ≤ℚ a
turned a b p = linear_le (a ∷ b ∷ []) (λ s w. omega (arith, s.le_out))

-- equations that are given
given : (a b c : ℚ) → a +ℚ b ≡ c → c -ℚ b ≡ a
given a b c e = linear_same (a ∷ b ∷ c ∷ []) (λ s w. omega (arith, s.same_out))

not_less : (a b c : ℚ) → ¬ (a <ℚ b) → b ≡ c → c ≤ℚ a
not_less a b c h e = linear_le (a ∷ b ∷ c ∷ []) (λ s w. omega (arith, s.not_lt_out, s.same_out))

-- products are brought to one form by `simp`
squared : (a b : ℚ) → (a +ℚ b) *ℚ (a +ℚ b) ≡ a *ℚ a +ℚ whole 2 0 *ℚ (a *ℚ b) +ℚ b *ℚ b
squared a b =
    let e : (a +ℚ b) *ℚ (a +ℚ b) ≡ a *ℚ a +ℚ (a *ℚ b +ℚ (a *ℚ b +ℚ b *ℚ b)) = simp ring_laws in
    e ∙ linear_same ((a *ℚ a) ∷ (a *ℚ b) ∷ (b *ℚ b) ∷ []) (λ s w. omega arith)

expanded : (a b c d : ℚ) → (a +ℚ b) *ℚ (c +ℚ d) ≡ d *ℚ b +ℚ a *ℚ c +ℚ (b *ℚ c +ℚ d *ℚ a)
expanded a b c d = simp ring_laws
