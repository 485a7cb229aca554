-- The examples.
use Rattle.std.proofs.Common.{◌≡◌, [], ◌∷◌, ap, ◌∙◌}
use Rattle.cip_rational.specs.Rational.{◌+ℚ◌, ◌*ℚ◌, whole, zeroℚ}
use Rattle.cip_rational.proofs.Rational.Ring.{whole_add, whole_mul, zero-*ℚ, +ℚ-zero}
use Rattle.cip_search.specs.Forms.{spread}
use Rattle.cip_search.specs.ReductionExamples.{twice_and_one, at_two}

eleven : whole 1 0 +ℚ whole 2 0 *ℚ whole 5 0 ≡ whole 11 0
eleven = ap (λ t. whole 1 0 +ℚ t) (whole_mul 2 0 5 0) ∙ whole_add 1 0 10 0

two : whole 2 0 +ℚ zeroℚ *ℚ whole 5 0 ≡ whole 2 0
two = ap (λ t. whole 2 0 +ℚ t) (zero-*ℚ (whole 5 0)) ∙ +ℚ-zero (whole 2 0)

pub of_form : spread twice_and_one (whole 5 0 ∷ whole 9 0 ∷ []) ≡ whole 5 0 ∷ whole 11 0 ∷ whole 9 0 ∷ []
of_form = ap (λ t. whole 5 0 ∷ t ∷ whole 9 0 ∷ []) eleven

pub of_constant : spread at_two (whole 5 0 ∷ whole 9 0 ∷ []) ≡ whole 5 0 ∷ whole 2 0 ∷ whole 9 0 ∷ []
of_constant = ap (λ t. whole 5 0 ∷ t ∷ whole 9 0 ∷ []) two
