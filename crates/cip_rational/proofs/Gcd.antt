-- Lemmas on `Gcd`.
use Rattle.std.proofs.Common.{◌≡◌, ℕ, ◌*◌, ◌<◌, ap, ◌∙◌, mul_comm, subst}
use Rattle.std.specs.Int.{IsGcd, ◌∣◌}
use Rattle.std.proofs.lemmas.Nat.Gcd.{same_from_IsGcd}
use native.Mathlib.Nat.{mul-one, dvd-mul_left}
use Rattle.cip_rational.specs.Gcd.{gcd, gcd_lem, gcd-mul}

-- whatever is a greatest common divisor is this one
pub gcd_unique : (a b g : ℕ) → IsGcd a b g → gcd a b ≡ g
gcd_unique a b g h = same_from_IsGcd a b (gcd a b) g (gcd_lem a b) h

-- a number that has nothing in common with one factor of a product divides the other, if it divides the product
pub dvd_of_coprime : (g b c : ℕ) → 0 < c → gcd g b ≡ 1 → g ∣ b * c → g ∣ c
dvd_of_coprime g b c p e h =
    let m : gcd (c * g) (c * b) ≡ c = gcd-mul c g b p ∙ ap (λ t. c * t) e ∙ mul-one c in
    let h' : g ∣ c * b = subst (λ t. g ∣ t) (mul_comm b c) h in
    subst (λ t. g ∣ t) m ((gcd_lem (c * g) (c * b)).2 g (dvd-mul_left g c) h')
