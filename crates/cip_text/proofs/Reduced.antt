-- The fraction of a size and a number below.
use Rattle.std.proofs.Common.{◌≡◌, ℕ, zero, suc, ◌<◌, ◌≤◌, ℤ, pos, ◌*ℤ◌, unsigned_abs, to_z, of_z, Bool, true, false, refl, sym, ap, subst, ◌∙◌, arith, lit<}
use Rattle.std.specs.Int.{w128}
use Rattle.std.proofs.Math.Nat.{one-mul}
use Rattle.cip_rational.specs.Rational.{◌*ℚ◌, ratio, integer, inverse, numerator, is_ratio}
use Rattle.cip_rational.specs.Range.{largest, fits_range}
use Rattle.cip_rational.proofs.Rational.Ratio.{integer_ratio, ratio-mul}
use Rattle.cip_rational.proofs.Rational.Lowest.{numerator-integer, denominator-integer, inverse-pos}
use Rattle.cip_rational.proofs.Range.InRange.{fits_in, fits-ratio}
use Rattle.cip_frac.specs.declared.fraction.FracFault.{FracFault}
use Rattle.cip_frac.specs.declared.fraction.FracFault.TheVariants.{ZeroBelow, Wide}
use Rattle.cip_frac.specs.FractionFault.{quotient_of, IsFaultOf}
use Rattle.cip_frac.proofs.Casts.{kept}
use Rattle.cip_rational.specs.Numeral.{signed}
use Rattle.cip_rational.proofs.InRange.{IsSound}
use Rattle.cip_rational.proofs.Integers.{times_one}
use Rattle.cip_text.specs.declared.reading.Reading.{Reading}
use Rattle.cip_text.specs.declared.reading.Reading.TheVariants.{Fits, NoNumber, Large, Fine}
use Rattle.cip_text.specs.Readings.{said, FitsRange}

abbrev read : ℤ → ℤ
read z = to_z w128 (of_z w128 z)

inverse_is : (k : ℕ) → inverse (integer (pos (suc k))) ≡ ratio (pos 1) (suc k)
inverse_is k =
    let e = inverse-pos (integer (pos (suc k))) k (numerator-integer (pos (suc k))) in
    let n : numerator (inverse (integer (pos (suc k)))) ≡ pos 1 = e.0 ∙ ap pos (denominator-integer (pos (suc k))) in
    sym (is_ratio (inverse (integer (pos (suc k))))) ∙ rw (n, e.1) refl

quotient_ratio : (p : ℤ) (d : ℕ) → 0 < d → quotient_of p (pos d) ≡ ratio p d
unfolding quotient_of
quotient_ratio p zero h = absurd (omega arith)
quotient_ratio p (suc k) h =
    ap (λ x. x *ℚ inverse (integer (pos (suc k)))) (sym (integer_ratio p)) ∙ ap (λ x. ratio p 1 *ℚ x) (inverse_is k)
    ∙ ratio-mul p (pos 1) 1 (suc k) (lit< tt) h ∙ ap (ratio (p *ℤ pos 1)) (one-mul (suc k)) ∙ ap (λ z. ratio z (suc k)) (times_one p)

abs_signed : (negative : Bool) (size : ℕ) → unsigned_abs (signed negative size) ≡ size
abs_signed false size = refl
abs_signed true zero = refl
abs_signed true (suc n) = refl

module _ (negative : Bool) (size below : ℕ) (p q : ℤ) (p_is : p ≡ signed negative size) (q_is : q ≡ pos below) (small : size ≤ largest) (some : 0 < below) (small_below : below ≤ largest) where
  p_read : read p ≡ signed negative size
  p_read = ap read p_is ∙ kept (signed negative size) (omega (arith, abs_signed negative size, small))

  q_read : read q ≡ pos below
  q_read = ap read q_is ∙ kept (pos below) (omega (arith, small_below))

  pub quotient_read : quotient_of (read p) (read q) ≡ ratio (signed negative size) below
  quotient_read = ap (λ x. quotient_of x (read q)) p_read ∙ ap (λ x. quotient_of (signed negative size) x) q_read ∙ quotient_ratio (signed negative size) below some

  pub no_fault : (fault : FracFault) → IsFaultOf (read p) (read q) fault → ⊥
  no_fault ZeroBelow f =
      let e : pos below ≡ pos 0 = sym q_read ∙ f in
      let z : below ≡ 0 = cc in
      omega (arith, z, some)
  no_fault Wide f =
      let fits : fits_range (ratio (signed negative size) below) ≡ true = fits_in _ (fits-ratio (signed negative size) below some (subst (λ n. n ≤ largest) (sym (abs_signed negative size)) small) small_below) in
      let e : true ≡ false = sym fits ∙ ap fits_range (sym quotient_read) ∙ f.1 in
      absurd (cc)

pub kept_reading : (reading : Reading) → IsSound (said reading) → FitsRange reading
kept_reading (Fits negative size below) s = let t = s.told negative size below refl in (t.small_size, t.positive, t.small_below)
kept_reading NoNumber s = tt
kept_reading (Large negative) s = tt
kept_reading Fine s = tt
