-- Sums and products of whole numbers, whose denominators are 1.
use Rattle.std.proofs.Common.{◌≡◌, ℕ, ◌*◌, ◌<◌, ◌^◌, ℤ, pos, ◌+ℤ◌, ◌*ℤ◌, unsigned_abs, true, false, sym, ap, subst, ◌∙◌, refl, arith, lit<, inl, Bool, cond, Option, Some, None, Ok, Err, FitsSigned}
use Rattle.std.specs.Int.{w128}
use Rattle.std.specs.Prelude.{MatchOption}
use lib.Bits.{bit_or}
use Rattle.std.proofs.lemmas.Int.{unsigned_abs-mul, to_z-of_z}
use Rattle.std.proofs.lemmas.Nat.{le_or_l, le_or_r}
use Rattle.cip_rational.specs.Rational.{ℚ, ◌+ℚ◌, ◌*ℚ◌, ratio, numerator, denominator}
use Rattle.cip_rational.specs.Range.{sum_overflows, product_overflows}
use Rattle.cip_rational.proofs.Integers.{gcd_one, times_one}
use Rattle.cip_rational.proofs.Rational.Lowest.{numerator_lowest, denominator_lowest}
use Rattle.cip_frac.specs.declared.operations.Wide.{Wide}
use Rattle.cip_frac.specs.Outcomes.{sum_outcome, product_outcome, and_then, product_added}
use Rattle.cip_frac.specs.LowestTerms.{AreLowest}
use Rattle.cip_frac.proofs.Casts.{kept}
use Rattle.cip_frac.proofs.Fields.{AreLowest-whole}
use Rattle.cip_frac.proofs.SumParts.{total_large, none_large, sum_ratio}
use Rattle.cip_frac.proofs.Products.{product_large, products_fit, product_ratio}
use Rattle.cip_frac.proofs.SumSteps.{read}

pub option_map : {V : Type 0} (o : Option V) {P P' : Type 0} {Q Q' : V → Type 0} → (P → P') → ((v : V) → Q v → Q' v) → MatchOption o P Q → MatchOption o P' Q'
option_map None f g h = f h
option_map (Some v) f g h = g v h

-- a whole number that is below 2 ^ 127 is what the code makes of it
pub made_lowest : (z r : ℤ) → (unsigned_abs z < 2 ^ 127) × (r ≡ z) → AreLowest (read r) 1
made_lowest z r h = let e : read r ≡ z = ap read h.1 ∙ kept z h.0 in rw e (AreLowest-whole z h.0)

-- the same for a product
pub made_product : (z w r : ℤ) → (unsigned_abs z * unsigned_abs w < 2 ^ 127) × (r ≡ z *ℤ w) → AreLowest (read r) 1
made_product z w r h = made_lowest (z *ℤ w) r (rw (unsigned_abs-mul z w) h.0, h.1)

pub product_made : (z w r : ℤ) (q : ℚ) → FitsSigned w128 z → FitsSigned w128 w → (unsigned_abs (read z) * unsigned_abs (read w) < 2 ^ 127) × (r ≡ read z *ℤ read w) → q ≡ ratio (read r) 1 → (unsigned_abs (z *ℤ w) < 2 ^ 127) × (q ≡ ratio (z *ℤ w) 1)
product_made z w r q fz fw h e =
    let kz : read z ≡ z = to_z-of_z w128 z fz in
    let kw : read w ≡ w = to_z-of_z w128 w fw in
    let h' : (unsigned_abs z * unsigned_abs w < 2 ^ 127) × (r ≡ z *ℤ w) = rw (kz, kw) at h in
    let small : unsigned_abs (z *ℤ w) < 2 ^ 127 = rw (unsigned_abs-mul z w) h'.0 in
    (small, e ∙ ap (λ n. ratio (read n) 1) h'.1 ∙ ap (λ n. ratio n 1) (kept (z *ℤ w) small))

module _ (x y : ℚ) (a c : ℤ) (b d : ℕ) (ea : a ≡ numerator x) (eb : b ≡ denominator x) (ha : AreLowest a b) (ec : c ≡ numerator y) (ed : d ≡ denominator y) (hc : AreLowest c d) (one_b : b ≡ 1) (one_d : d ≡ 1) where
  ea1 : 1 ≡ denominator x
  ea1 = sym one_b ∙ eb

  ed1 : 1 ≡ denominator y
  ed1 = sym one_d ∙ ed

  la : AreLowest a 1
  la = subst (AreLowest a) one_b ha

  lc : AreLowest c 1
  lc = subst (AreLowest c) one_d hc

  raised : a *ℤ pos 1 +ℤ c *ℤ pos 1 ≡ a +ℤ c
  raised = rw (times_one a, times_one c) refl

  ka : read a ≡ a
  ka = kept a ha.over_small

  kc : read c ≡ c
  kc = kept c hc.over_small

  few : (n : ℕ) → n < 2 ^ 127 → n * 1 < 2 ^ 127
  few n h = omega (arith, h)

  pub whole_sum_is : (o : Option ℚ) → MatchOption o (¬ (unsigned_abs (read a +ℤ read c) < 2 ^ 127)) (λ v. (unsigned_abs (read a +ℤ read c) < 2 ^ 127) × (v ≡ ratio (read a +ℤ read c) 1)) → MatchOption o (sum_overflows x y ≡ true) (λ v. (sum_overflows x y ≡ false) × (v ≡ x +ℚ y))
  whole_sum_is o m = option_map o too_large_sum fitting_sum m
    where
      too_large_sum : ¬ (unsigned_abs (read a +ℤ read c) < 2 ^ 127) → sum_overflows x y ≡ true
      too_large_sum h = total_large x y a c 1 1 ea ea1 la ec ed1 lc 1 (gcd_one 1) 1 1 refl refl (rw raised (rw (ka, kc) at h))

      fitting_sum : (v : ℚ) → (unsigned_abs (read a +ℤ read c) < 2 ^ 127) × (v ≡ ratio (read a +ℤ read c) 1) → (sum_overflows x y ≡ false) × (v ≡ x +ℚ y)
      fitting_sum v h =
          let small : unsigned_abs (a +ℤ c) < 2 ^ 127 = rw (ka, kc) at h.0 in
          let value : v ≡ ratio (a +ℤ c) 1 = rw (ka, kc) at h.1 in
          let total : unsigned_abs (a *ℤ pos 1 +ℤ c *ℤ pos 1) < 2 ^ 127 = rw raised small in
          let once : (a +ℤ c) *ℤ pos 1 ≡ a *ℤ pos 1 +ℤ c *ℤ pos 1 = times_one (a +ℤ c) ∙ sym raised in
          let none : sum_overflows x y ≡ false = none_large x y a c 1 1 ea ea1 la ec ed1 lc 1 (gcd_one 1) 1 1 refl refl (few _ ha.over_small) (few _ hc.over_small) total (lit< tt) in
          (none, value ∙ sum_ratio x y a c 1 1 ea ea1 la ec ed1 lc 1 (gcd_one 1) 1 1 refl refl 1 (gcd_one _) (a +ℤ c) 1 once refl (lit< tt))

  pub whole_product_is : (o : Option ℚ) → MatchOption o (¬ (unsigned_abs (read a *ℤ read c) < 2 ^ 127)) (λ v. (unsigned_abs (read a *ℤ read c) < 2 ^ 127) × (v ≡ ratio (read a *ℤ read c) 1)) → MatchOption o (product_overflows x y ≡ true) (λ v. (product_overflows x y ≡ false) × (v ≡ x *ℚ y))
  whole_product_is o m = option_map o too_large_product fitting_product m
    where
      too_large_product : ¬ (unsigned_abs (read a *ℤ read c) < 2 ^ 127) → product_overflows x y ≡ true
      too_large_product h =
          let h' : ¬ (unsigned_abs (a *ℤ c) < 2 ^ 127) = rw (ka, kc) at h in
          product_large x y a c 1 1 ea ea1 la ec ed1 lc 1 1 (gcd_one _) (gcd_one _) a c 1 1 (times_one a) (times_one c) refl refl (inl (omega (arith, h')))

      fitting_product : (v : ℚ) → (unsigned_abs (read a *ℤ read c) < 2 ^ 127) × (v ≡ ratio (read a *ℤ read c) 1) → (product_overflows x y ≡ false) × (v ≡ x *ℚ y)
      fitting_product v h =
          let small : unsigned_abs (a *ℤ c) < 2 ^ 127 = rw (ka, kc) at h.0 in
          let value : v ≡ ratio (a *ℤ c) 1 = rw (ka, kc) at h.1 in (
            products_fit x y a c 1 1 ea ea1 la ec ed1 lc 1 1 (gcd_one _) (gcd_one _) a c 1 1 (times_one a) (times_one c) refl refl small (lit< tt),
            value ∙ product_ratio x y a c 1 1 ea ea1 la ec ed1 lc 1 1 (gcd_one _) (gcd_one _) a c 1 1 (times_one a) (times_one c) refl refl,
          )

-- denominators of 1 in one test
pub all_ones : (m b d : ℕ) → 0 < m → 0 < b → 0 < d → bit_or (bit_or m b) d ≡ 1 → (m ≡ 1) × (b ≡ 1) × (d ≡ 1)
all_ones m b d p q r e = (
  omega (arith, e, le_or_l m b, le_or_l (bit_or m b) d),
  omega (arith, e, le_or_r m b, le_or_l (bit_or m b) d),
  omega (arith, e, le_or_r (bit_or m b) d),
)

taken : (overflows : Bool) (wide : Wide) (q v : ℚ) → (overflows ≡ false) × (v ≡ q) → cond overflows (Err wide) (Ok q) ≡ Ok v
taken overflows wide q v h = rw (h.0, h.1) refl

-- a sum with the product of two whole numbers added
module _ (s x y : ℚ) (n a c : ℤ) (m b d : ℕ) (en : n ≡ numerator s) (em : m ≡ denominator s) (hn : AreLowest n m) (ea : a ≡ numerator x) (eb : b ≡ denominator x) (ha : AreLowest a b) (ec : c ≡ numerator y) (ed : d ≡ denominator y) (hc : AreLowest c d) (one_m : m ≡ 1) (one_b : b ≡ 1) (one_d : d ≡ 1) where
  pub short_step_is : (t : ℤ) (v : ℚ) → (unsigned_abs (read a *ℤ read c) < 2 ^ 127) × (unsigned_abs (read n +ℤ read a *ℤ read c) < 2 ^ 127) × (t ≡ read n +ℤ read a *ℤ read c) → v ≡ ratio (read t) 1 → product_added s x y ≡ Ok v
  short_step_is t v h ev =
      let p : (product_overflows x y ≡ false) × (ratio (read a *ℤ read c) 1 ≡ x *ℚ y) = whole_product_is x y a c b d ea eb ha ec ed hc one_b one_d (Some (ratio (read a *ℤ read c) 1)) (h.0, refl) in
      let l : AreLowest (read a *ℤ read c) 1 = AreLowest-whole (read a *ℤ read c) h.0 in
      let k : read (read a *ℤ read c) ≡ read a *ℤ read c = kept (read a *ℤ read c) h.0 in
      let kt : read t ≡ read n +ℤ read a *ℤ read c = ap read h.2 ∙ kept (read n +ℤ read a *ℤ read c) h.1 in
      let q : (sum_overflows s (ratio (read a *ℤ read c) 1) ≡ false) × (v ≡ s +ℚ ratio (read a *ℤ read c) 1) =
      whole_sum_is s (ratio (read a *ℤ read c) 1) n (read a *ℤ read c) m 1 en em hn (sym (numerator_lowest (read a *ℤ read c) 1 l.positive l.lowest)) (sym (denominator_lowest (read a *ℤ read c) 1 l.positive l.lowest)) l one_m refl (Some v) (rw k h.1, rw k (ev ∙ ap (λ z. ratio z 1) kt)) in
      let e1 : product_outcome x y ≡ Ok (ratio (read a *ℤ read c) 1) = taken (product_overflows x y) _ (x *ℚ y) (ratio (read a *ℤ read c) 1) p in
      let e2 : sum_outcome s (ratio (read a *ℤ read c) 1) ≡ Ok v = taken (sum_overflows s (ratio (read a *ℤ read c) 1)) _ (s +ℚ ratio (read a *ℤ read c) 1) v q in
      ap (λ o. and_then o (λ w. sum_outcome s w)) e1 ∙ e2
