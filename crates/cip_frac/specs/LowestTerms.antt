-- The lowest terms that a pair of fields may be, and the rational that they stand for.
use Rattle.std.specs.Prelude.{◌≡◌, ℕ, ℤ, ◌<◌, ◌^◌, unsigned_abs, refl}
use Rattle.std.specs.Int.{IsGcd}
use Rattle.cip_rational.specs.Rational.{ℚ, ratio, numerator, denominator}
use Rattle.cip_rational.proofs.Rational.Lowest.{numerator_lowest, denominator_lowest}
use Rattle.cip_frac.specs.declared.fraction.Frac.TheInside.{Inside}

-- n / d is in lowest terms, and both are below 2^127 in magnitude
pub record AreLowest (n : ℤ) (d : ℕ) : Type 0 where
  pub positive : 0 < d
  pub lowest : IsGcd (unsigned_abs n) d 1
  pub over_small : unsigned_abs n < 2 ^ 127
  pub under_small : d < 2 ^ 127

-- the number that the fields stand for
abbrev pub rational_of : Inside → ℚ
rational_of f = ratio f.numerator f.denominator

-- the fields are lowest terms in the range
abbrev pub HasLowest : Inside → Type 0
HasLowest f = AreLowest f.numerator f.denominator

-- the fields of a number
abbrev pub lowest_terms_of : ℚ → Inside
lowest_terms_of q = record { numerator = numerator q; denominator = denominator q }

pub gives_back : (f : Inside) → HasLowest f → lowest_terms_of (rational_of f) ≡ f
gives_back f h =
    rw (
      numerator_lowest f.numerator f.denominator h.positive h.lowest,
      denominator_lowest f.numerator f.denominator h.positive h.lowest,
    ) refl
