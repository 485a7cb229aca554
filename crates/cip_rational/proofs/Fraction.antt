-- Lemmas on `Fraction`.
use mathlib.Core.HLevel.{Π_prop}
use Rattle.cip_rational.specs.Fraction.{Fraction, ℚ, of, rational_ind}

pub rational_ind₂ : (P : ℚ → ℚ → Type 0) → ((p q : ℚ) → IsProp (P p q)) → ((x y : Fraction) → P (of x) (of y)) → (p q : ℚ) → P p q
rational_ind₂ P prop h p q =
    rational_ind (λ p. (q : ℚ) → P p q) (λ p. Π_prop (λ q. prop p q)) (λ x. rational_ind (P (of x)) (prop (of x)) (h x)) p q

pub rational_ind₃ : (P : ℚ → ℚ → ℚ → Type 0) → ((p q r : ℚ) → IsProp (P p q r)) → ((x y z : Fraction) → P (of x) (of y) (of z)) → (p q r : ℚ) → P p q r
rational_ind₃ P prop h p q r =
    rational_ind₂ (λ p q. (r : ℚ) → P p q r) (λ p q. Π_prop (λ r. prop p q r)) (λ x y. rational_ind (P (of x) (of y)) (prop (of x) (of y)) (h x y)) p q r
