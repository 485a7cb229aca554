-- When two integers make no fraction of 128 bits.
use Rattle.std.specs.Prelude.{◌≡◌, ◌≢◌, ℤ, pos, false}
use Rattle.cip_rational.specs.Rational.{ℚ, ◌*ℚ◌, inverse, integer}
use Rattle.cip_rational.specs.Range.{fits_range}
use Rattle.cip_frac.specs.declared.fraction.FracFault.{FracFault}
use Rattle.cip_frac.specs.declared.fraction.FracFault.TheVariants.{ZeroBelow, Wide}

-- p / q
unfoldable pub quotient_of : ℤ → ℤ → ℚ
quotient_of p q = integer p *ℚ inverse (integer q)

-- two integers have this fault: q is 0, or it is not and p / q is out of the range
abbrev pub IsFaultOf : ℤ → ℤ → FracFault → Type 0
IsFaultOf p q ZeroBelow = q ≡ pos 0
IsFaultOf p q Wide = (q ≢ pos 0) × (fits_range (quotient_of p q) ≡ false)
