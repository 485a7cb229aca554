-- Products of two integers of 128 bits: the short way by two words, and the checked one.
use Rattle.std.proofs.Common.{◌≡◌, ◌*◌, ◌<◌, ◌^◌, ◌*ℤ◌, ℤ, pos, negsuc, unsigned_abs, of_z, FitsSigned, arith, ap, ap₂, ◌∙◌}
use Rattle.std.specs.Int.{w128}
use Rattle.std.proofs.lemmas.Int.{ints, unsigned_abs-mul, to_z-of_z, fits_signed_from_abs}
use Rattle.cip_frac.proofs.Casts.{kept}
use Rattle.cip_frac.proofs.ShortSums.{word}
use Rattle.cip_frac.proofs.SumSteps.{read}

-- an integer that isn't the least one is below 2^127 in magnitude, and the least one isn't
inside : (z : ℤ) → FitsSigned w128 z → (of_z w128 z ≡ 2 ^ 127 → ⊥) → unsigned_abs z < 2 ^ 127
inside (pos n) f h = f.sfits
inside (negsuc n) f h = omega (arith, ints, f.sfits)

outside : (z : ℤ) → FitsSigned w128 z → of_z w128 z ≡ 2 ^ 127 → unsigned_abs z < 2 ^ 127 → ⊥
outside z f e h = omega (arith, ints)

module _ (a b : ℤ) (fa : FitsSigned w128 a) (fb : FitsSigned w128 b) where
  both : read a *ℤ read b ≡ a *ℤ b
  both = ap₂ (λ x y. x *ℤ y) (to_z-of_z w128 a fa) (to_z-of_z w128 b fb)

  bounded : (p : ℤ) → p ≡ a *ℤ b → unsigned_abs (a *ℤ b) < 2 ^ 127 → (unsigned_abs a * unsigned_abs b < 2 ^ 127) × (read p ≡ a *ℤ b)
  bounded p e s = (rw (unsigned_abs-mul a b) at s, ap read e ∙ kept (a *ℤ b) s)

  -- by two words
  pub words_product : (l r p : ℤ) → word l ≡ l → word r ≡ r → l ≡ read a → r ≡ read b → p ≡ word l *ℤ word r → unsigned_abs (word l *ℤ word r) < 2 ^ 127 → (unsigned_abs a * unsigned_abs b < 2 ^ 127) × (read p ≡ a *ℤ b)
  words_product l r p kl kr el er ep s =
      let e : word l *ℤ word r ≡ a *ℤ b = ap₂ (λ x y. x *ℤ y) (kl ∙ el) (kr ∙ er) ∙ both in
      bounded p (ep ∙ e) (rw e at s)

  -- by a product that is checked
  pub checked_some : (p : ℤ) → FitsSigned w128 (read a *ℤ read b) → p ≡ read a *ℤ read b → (of_z w128 p ≡ 2 ^ 127 → ⊥) → (unsigned_abs a * unsigned_abs b < 2 ^ 127) × (read p ≡ a *ℤ b)
  checked_some p f ep n =
      bounded p (ep ∙ both) (inside (a *ℤ b) (rw both at f) (rw (ep ∙ both) at n))

  pub checked_least : (p : ℤ) → FitsSigned w128 (read a *ℤ read b) → p ≡ read a *ℤ read b → of_z w128 p ≡ 2 ^ 127 → unsigned_abs a * unsigned_abs b < 2 ^ 127 → ⊥
  checked_least p f ep e s =
      outside (a *ℤ b) (rw both at f) (rw (ep ∙ both) at e) (rw (unsigned_abs-mul a b) s)

  pub checked_none : (FitsSigned w128 (read a *ℤ read b) → ⊥) → unsigned_abs a * unsigned_abs b < 2 ^ 127 → ⊥
  checked_none n s = n (rw both (fits_signed_from_abs w128 (a *ℤ b) (rw (unsigned_abs-mul a b) s)))
