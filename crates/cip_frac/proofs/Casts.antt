-- Short products and quotients: what the code computes over 64 bits is the number meant.
use Rattle.std.proofs.Common.{◌≡◌, ℕ, ◌*◌, ◌<◌, ◌≤◌, ◌^◌, ◌*ℤ◌, ◌+ℤ◌, ℤ, pos, unsigned_abs, neg_ℤ, ◌-ℤ◌, FitsSigned, to_z, of_z, arith, ap, ap₂, subst, ◌∙◌}
use Rattle.std.specs.Int.{w64, w128}
use Rattle.std.specs.Prelude.{int_div}
use Rattle.std.proofs.lemmas.Int.{ints, unsigned_abs-mul, to_z-of_z, fits_signed_from_abs, quot_is, quot_fits}
use Rattle.std.proofs.Math.Nat.{mul-le-mul}
use Rattle.cip_frac.proofs.ShortSums.{word_size}

pub short_fits : (a : ℤ) → FitsSigned w128 a → unsigned_abs (to_z w128 (of_z w128 a)) < 2 ^ 63 → FitsSigned w64 (to_z w128 (of_z w128 a))
short_fits a fa p = fits_signed_from_abs w64 (to_z w128 (of_z w128 a)) p

pub quotient_is_short : (a : ℤ) (g : ℕ) → FitsSigned w128 a → unsigned_abs (to_z w128 (of_z w128 a)) < 2 ^ 63 → 0 < g → g ≤ 9223372036854775807 → to_z w128 (of_z w128 (to_z w64 (of_z w64 (int_div (to_z w64 (of_z w64 (to_z w128 (of_z w128 a)))) (to_z w64 g))))) ≡ int_div a (pos g)
quotient_is_short a g fa p some small =
    let ea : to_z w128 (of_z w128 a) ≡ a = to_z-of_z w128 a fa in
    let p' : unsigned_abs a < 2 ^ 63 = rw (ea) at p in
    let f : FitsSigned w64 a = fits_signed_from_abs w64 a p' in
    let fg : FitsSigned w64 (pos g) = fits_signed_from_abs w64 (pos g) (omega arith) in
    let fq : FitsSigned w64 (int_div a (pos g)) = quot_fits w64 a (pos g) f (omega (arith, ints)) in
    let wide : FitsSigned w128 (int_div a (pos g)) = omega (arith, ints, fq) in
    rw (ea) (ap (λ z. to_z w128 (of_z w128 z)) (quot_is w64 a (pos g) f fg fq) ∙ to_z-of_z w128 (int_div a (pos g)) wide)

pub negated : (n : ℤ) → unsigned_abs n < 2 ^ 127 → to_z w128 (of_z w128 (pos 0 -ℤ to_z w128 (of_z w128 n))) ≡ neg_ℤ n
negated n h = omega (arith, ints)

pub kept : (n : ℤ) → unsigned_abs n < 2 ^ 127 → to_z w128 (of_z w128 n) ≡ n
kept n h = omega (arith, ints)

pub negated_fits : (n : ℤ) → unsigned_abs n < 2 ^ 127 → FitsSigned w128 (pos 0 -ℤ to_z w128 (of_z w128 n))
negated_fits n h = rw (kept n h) (omega (arith, ints))

-- no greater than a number that was negated
pub negated_small : (n r : ℤ) → unsigned_abs n < 2 ^ 127 → unsigned_abs r ≤ unsigned_abs (to_z w128 (of_z w128 (pos 0 -ℤ to_z w128 (of_z w128 n)))) → unsigned_abs r < 2 ^ 127
negated_small n r h b = let k = rw (negated n h) at b in omega (arith, ints, k, h)

pub kept_natural : (d : ℕ) → d < 2 ^ 127 → to_z w128 d ≡ pos d
kept_natural d h = omega (arith, ints)

-- 64 bits, widened
pub widened_small : (p : ℤ) → FitsSigned w64 p → unsigned_abs p < 2 ^ 127
widened_small p f = omega (arith, ints, f)

pub widened : (p : ℤ) → FitsSigned w64 p → to_z w128 (of_z w128 (to_z w64 (of_z w64 p))) ≡ p
widened p f = ap (λ z. to_z w128 (of_z w128 z)) (to_z-of_z w64 p f) ∙ kept p (widened_small p f)

step_total : (n z : ℤ) → unsigned_abs n < 2 ^ 126 → unsigned_abs z ≤ 2 ^ 126 → unsigned_abs (n +ℤ z) < 2 ^ 127
step_total n z p q = omega (arith, ints, p, q)

-- a product of two integers of 64 bits
module _ (a b : ℤ) (fa : FitsSigned w64 a) (fb : FitsSigned w64 b) where
  product_small : unsigned_abs (a *ℤ b) ≤ 2 ^ 126
  product_small =
      let h : unsigned_abs a * unsigned_abs b ≤ 2 ^ 63 * 2 ^ 63 = mul-le-mul (word_size a fa) (word_size b fb) in
      rw (unsigned_abs-mul a b) (omega arith)

  pub product_below : unsigned_abs (a *ℤ b) < 2 ^ 127
  product_below = omega (arith, product_small)

  product_kept : to_z w128 (of_z w128 (a *ℤ b)) ≡ a *ℤ b
  product_kept = kept (a *ℤ b) product_below

  pub product_fits : FitsSigned w128 (to_z w128 (of_z w128 (to_z w64 (of_z w64 a))) *ℤ to_z w128 (of_z w128 (to_z w64 (of_z w64 b))))
  product_fits = rw (widened a fa, widened b fb) (fits_signed_from_abs w128 (a *ℤ b) product_below)

  pub product_is : to_z w128 (of_z w128 (to_z w128 (of_z w128 (to_z w64 (of_z w64 a))) *ℤ to_z w128 (of_z w128 (to_z w64 (of_z w64 b))))) ≡ a *ℤ b
  product_is = rw (widened a fa, widened b fb) product_kept

-- and that added to a third of 126
module _ (n a b : ℤ) (fn : FitsSigned w128 n) (fa : FitsSigned w64 a) (fb : FitsSigned w64 b) (sn : unsigned_abs n < 2 ^ 126) where
  kept_n : to_z w128 (of_z w128 n) ≡ n
  kept_n = to_z-of_z w128 n fn

  total_below : unsigned_abs (n +ℤ a *ℤ b) < 2 ^ 127
  total_below = step_total n (a *ℤ b) sn (product_small a b fa fb)

  pub whole_step_fits : FitsSigned w128 (to_z w128 (of_z w128 n) +ℤ to_z w128 (of_z w128 (to_z w128 (of_z w128 (to_z w64 (of_z w64 a))) *ℤ to_z w128 (of_z w128 (to_z w64 (of_z w64 b))))))
  whole_step_fits = rw (kept_n, product_is a b fa fb) (fits_signed_from_abs w128 (n +ℤ a *ℤ b) total_below)

  pub whole_step_is : to_z w128 (of_z w128 (to_z w128 (of_z w128 n) +ℤ to_z w128 (of_z w128 (to_z w128 (of_z w128 (to_z w64 (of_z w64 a))) *ℤ to_z w128 (of_z w128 (to_z w64 (of_z w64 b))))))) ≡ n +ℤ a *ℤ b
  whole_step_is = rw (kept_n, product_is a b fa fb) (kept (n +ℤ a *ℤ b) total_below)

  pub whole_step_small : unsigned_abs (to_z w128 (of_z w128 (to_z w128 (of_z w128 n) +ℤ to_z w128 (of_z w128 (to_z w128 (of_z w128 (to_z w64 (of_z w64 a))) *ℤ to_z w128 (of_z w128 (to_z w64 (of_z w64 b)))))))) < 2 ^ 127
  whole_step_small = rw whole_step_is total_below

-- a total by the values of its parts
pub total_by : (n a b n' a' b' r total : ℤ) → n' ≡ n → a' ≡ a → b' ≡ b → unsigned_abs (a' *ℤ b') < 2 ^ 127 → r ≡ n' +ℤ a' *ℤ b' → unsigned_abs r < 2 ^ 127 → total ≡ r → (unsigned_abs (a *ℤ b) < 2 ^ 127) × (unsigned_abs (n +ℤ a *ℤ b) < 2 ^ 127) × (total ≡ n +ℤ a *ℤ b)
total_by n a b n' a' b' r total en ea eb small er bound et =
    let product : a' *ℤ b' ≡ a *ℤ b = ap₂ (λ (x y : ℤ). x *ℤ y) ea eb in
    let e : r ≡ n +ℤ a *ℤ b = er ∙ ap₂ (λ (x y : ℤ). x +ℤ y) en product in (
      subst (λ (z : ℤ). unsigned_abs z < 2 ^ 127) product small,
      subst (λ (z : ℤ). unsigned_abs z < 2 ^ 127) e bound,
      et ∙ e,
    )
