-- An entry of a line in an exchange, by what it is.
use Rattle.std.proofs.Common.{◌≡◌, Bool, true, false, Result, MatchResult, None, Some, refl, sym}
use Rattle.cip_rational.specs.Rational.{ℚ, ◌+ℚ◌, ◌*ℚ◌, zeroℚ, negate}
use Rattle.cip_bland.specs.Exchange.{solved_at, substituted_at}
use Rattle.cip_bland.specs.Operations.{first_overflow, product_at, sum_at}
use Rattle.cip_bland.specs.MoveOperations.{solved_operations_at, substituted_operations_at}
use Rattle.cip_bland.specs.declared.places.EntryPlace.{EntryPlace}
use Rattle.cip_dict.specs.declared.fault.OutOfRange.{OutOfRange}

module _ (place : EntryPlace) (leaving absent : Bool) (q a : ℚ) where
  pub solved_absent : (v : ℚ) → leaving ≡ false → absent ≡ true → v ≡ zeroℚ → (first_overflow (solved_operations_at place leaving absent q a) ≡ None) × (v ≡ solved_at leaving absent q a)
  solved_absent v l e h = rw (l, e) (refl, h)

  pub solved_formed : (r : Result ℚ OutOfRange) (at : EntryPlace) (neg : ℚ) → leaving ≡ false → absent ≡ false → at ≡ place → neg ≡ negate a → MatchResult r (λ v. (first_overflow (product_at at neg q) ≡ None) × (v ≡ neg *ℚ q)) (λ fault. first_overflow (product_at at neg q) ≡ Some fault.place) → MatchResult r (λ v. (first_overflow (solved_operations_at place leaving absent q a) ≡ None) × (v ≡ solved_at leaving absent q a)) (λ fault. first_overflow (solved_operations_at place leaving absent q a) ≡ Some fault.place)
  solved_formed r at neg l e p n h = rw (l, e, sym p, sym n) h

  module _ (b c : ℚ) where
    pub put_absent : (v : ℚ) → leaving ≡ false → absent ≡ true → v ≡ zeroℚ → (first_overflow (substituted_operations_at place leaving absent q a b c) ≡ None) × (v ≡ substituted_at leaving absent q a b c)
    put_absent v l e h = rw (l, e) (refl, h)

    pub put_leaving : (r : Result ℚ OutOfRange) (at : EntryPlace) → leaving ≡ true → at ≡ place → MatchResult r (λ v. (first_overflow (product_at at b q) ≡ None) × (v ≡ b *ℚ q)) (λ fault. first_overflow (product_at at b q) ≡ Some fault.place) → MatchResult r (λ v. (first_overflow (substituted_operations_at place leaving absent q a b c) ≡ None) × (v ≡ substituted_at leaving absent q a b c)) (λ fault. first_overflow (substituted_operations_at place leaving absent q a b c) ≡ Some fault.place)
    put_leaving r at l p h = rw (l, sym p) h

    pub put_formed : (r : Result ℚ OutOfRange) (at : EntryPlace) → leaving ≡ false → absent ≡ false → at ≡ place → MatchResult r (λ v. (first_overflow (sum_at at a b c) ≡ None) × (v ≡ a +ℚ b *ℚ c)) (λ fault. first_overflow (sum_at at a b c) ≡ Some fault.place) → MatchResult r (λ v. (first_overflow (substituted_operations_at place leaving absent q a b c) ≡ None) × (v ≡ substituted_at leaving absent q a b c)) (λ fault. first_overflow (substituted_operations_at place leaving absent q a b c) ≡ Some fault.place)
    put_formed r at l e p h = rw (l, e, sym p) h

-- a sum of what is equal
pub sum_as : (r : Result ℚ OutOfRange) (place at : EntryPlace) (c a a' b b' : ℚ) → at ≡ place → a' ≡ a → b' ≡ b → MatchResult r (λ v. (first_overflow (sum_at at c a' b') ≡ None) × (v ≡ c +ℚ a' *ℚ b')) (λ fault. first_overflow (sum_at at c a' b') ≡ Some fault.place) → MatchResult r (λ v. (first_overflow (sum_at place c a b) ≡ None) × (v ≡ c +ℚ a *ℚ b)) (λ fault. first_overflow (sum_at place c a b) ≡ Some fault.place)
sum_as r place at c a a' b b' p ea eb h = rw (sym p, sym ea, sym eb) h

-- an entry that is substituted, by what is equal
pub substituted_as : (place : EntryPlace) (leaving absent : Bool) (q a a' b b' c c' : ℚ) (r : Result ℚ OutOfRange) → a ≡ a' → b ≡ b' → c ≡ c' → MatchResult r (λ v. (first_overflow (substituted_operations_at place leaving absent q a b c) ≡ None) × (v ≡ substituted_at leaving absent q a b c)) (λ fault. first_overflow (substituted_operations_at place leaving absent q a b c) ≡ Some fault.place) → MatchResult r (λ v. (first_overflow (substituted_operations_at place leaving absent q a' b' c') ≡ None) × (v ≡ substituted_at leaving absent q a' b' c')) (λ fault. first_overflow (substituted_operations_at place leaving absent q a' b' c') ≡ Some fault.place)
substituted_as place leaving absent q a a' b b' c c' r ea eb ec h = rw (sym ea, sym eb, sym ec) h
