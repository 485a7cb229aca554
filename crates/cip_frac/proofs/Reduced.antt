-- A fraction that need not be in lowest terms, taken to them.
use Rattle.std.proofs.Common.{◌≡◌, ℕ, suc, ◌*◌, ◌/◌, ◌<◌, ◌≤◌, ◌^◌, ℤ, pos, negsuc, neg_ℤ, ◌*ℤ◌, int_lt, unsigned_abs, FitsSigned, Bool, true, false, if◌then◌else◌, to_z, of_z, sym, ap, subst, ◌∙◌, refl, arith}
use Rattle.std.specs.Int.{IsGcd, w64, w128}
use borrow.Author.Differences.{same_in, product_is, false_is_lt}
use Rattle.std.proofs.lemmas.Int.{ints, to_z-of_z}
use Rattle.std.proofs.Math.Nat.{div-mul_cancel, div-le_self}
use Rattle.cip_rational.specs.Rational.{ratio}
use Rattle.cip_rational.proofs.Rational.Ratio.{ratio-cancel}
use Rattle.cip_frac.specs.LowestTerms.{AreLowest}
use Rattle.cip_frac.proofs.Casts.{kept, widened, widened_small}
use Rattle.cip_frac.proofs.Divisors.{IsCoprime, coprime_quotients, positive_from_IsGcd}
use Rattle.cip_frac.proofs.SumSteps.{read, factor_some}
use Rattle.cip_frac.proofs.Quotients.{negated_product}

-- z over g, by its sign
signed_part : ℤ → ℕ → ℤ
signed_part z g = if int_lt z (pos 0) then neg_ℤ (pos (unsigned_abs z / g)) else pos (unsigned_abs z / g)

sized : (s : Bool) (n : ℕ) → unsigned_abs (if s then neg_ℤ (pos n) else pos n) ≡ n
sized true n = omega (arith, ints)
sized false n = refl

part_size : (z : ℤ) (g : ℕ) → unsigned_abs (signed_part z g) ≡ unsigned_abs z / g
unfolding signed_part
part_size z g = sized (int_lt z (pos 0)) (unsigned_abs z / g)

part_exact : (z : ℤ) (g : ℕ) → unsigned_abs z / g * g ≡ unsigned_abs z → signed_part z g *ℤ pos g ≡ z
unfolding signed_part
part_exact (pos n) g h =
    let t : int_lt (pos n) (pos 0) ≡ false = sym (false_is_lt (pos n) (pos 0) (omega arith)) in
    rw t (same_in _ _ (omega (arith, h, product_is (pos (n / g)) (pos g))))
part_exact (negsuc n) g h = same_in _ _ (omega (arith, h, negated_product (suc n / g) g))

module _ (total : ℤ) (common size g : ℕ) (ft : FitsSigned w64 total) (fits : common < 2 ^ 64) (et : size ≡ unsigned_abs (to_z w64 (of_z w64 total))) (some : 0 < common) (hg : IsGcd size common g) where
  es : size ≡ unsigned_abs total
  es = et ∙ ap unsigned_abs (to_z-of_z w64 total ft)

  pub divisor_some : 0 < g
  divisor_some = positive_from_IsGcd size common g some hg

  total_small : unsigned_abs total < 2 ^ 127
  total_small = widened_small total ft

  gcd_is : IsGcd (unsigned_abs total) common g
  gcd_is = subst (λ n. IsGcd n common g) es hg

  total_is : to_z w128 (of_z w128 (to_z w64 (of_z w64 total))) ≡ total
  total_is = widened total ft

  pub whole_lowest : g ≡ 1 → AreLowest (to_z w128 (of_z w128 (to_z w64 (of_z w64 total)))) common
  whole_lowest e =
      rw total_is (record { positive = some; lowest = subst (λ n. IsGcd (unsigned_abs total) common n) e gcd_is; over_small = total_small; under_small = omega (arith, fits) })

  coprime : IsCoprime (unsigned_abs total / g) (common / g)
  coprime = coprime_quotients (unsigned_abs total) common g divisor_some gcd_is

  below_some : 0 < common / g
  below_some = factor_some (common / g) g (rw (div-mul_cancel g gcd_is.1) some)

  module _ (r : ℤ) (er : r ≡ (if int_lt (to_z w64 (of_z w64 total)) (pos 0) then neg_ℤ (pos (size / g)) else pos (size / g))) where
    r_is : r ≡ signed_part total g
    unfolding signed_part
    r_is = rw (to_z-of_z w64 total ft, es) at er

    r_size : unsigned_abs r ≡ unsigned_abs total / g
    r_size = ap unsigned_abs r_is ∙ part_size total g

    r_small : unsigned_abs r < 2 ^ 127
    r_small = let l : unsigned_abs total / g ≤ unsigned_abs total = div-le_self (unsigned_abs total) g in omega (arith, r_size, total_small)

    r_read : read r ≡ r
    r_read = kept r r_small

    pub part_lowest : AreLowest (read r) (common / g)
    part_lowest =
        let l : common / g ≤ common = div-le_self common g in
        rw r_read (record { positive = below_some; lowest = rw r_size coprime; over_small = r_small; under_small = omega (arith, l, fits) })

    pub part_ratio : ratio (read r) (common / g) ≡ ratio total common
    part_ratio =
        let over : r *ℤ pos g ≡ total = ap (λ z. z *ℤ pos g) r_is ∙ part_exact total g (div-mul_cancel g gcd_is.0) in
        let under : common / g * g ≡ common = div-mul_cancel g gcd_is.1 in
        let e : ratio (r *ℤ pos g) (common / g * g) ≡ ratio r (common / g) = ratio-cancel r (common / g) g below_some divisor_some in
        rw r_read (sym (rw (over, under) at e))
