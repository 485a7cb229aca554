-- Sums and products that are formed in 64 bits, over the product of the denominators.
use Rattle.std.proofs.Common.{◌≡◌, ℕ, ◌+◌, ◌*◌, ◌<◌, ◌≤◌, ◌^◌, ℤ, pos, ◌+ℤ◌, ◌*ℤ◌, unsigned_abs, FitsSigned, Ok, to_z, of_z, sym, ap, ap₂, ◌∙◌, arith}
use Rattle.std.specs.Int.{w64}
use borrow.Author.Differences.{up, down, same_in, product_is, sum_is_lem}
use Rattle.std.proofs.lemmas.Int.{ints, to_z-of_z, unsigned_abs-mul}
use Rattle.std.proofs.Math.Nat.{mul-le-mul, mul-pos}
use Rattle.cip_rational.specs.Rational.{ℚ, ◌+ℚ◌, ◌*ℚ◌, ratio, numerator, denominator, is_ratio}
use Rattle.cip_rational.specs.Range.{magnitude}
use Rattle.cip_rational.proofs.Rational.Lowest.{denominator-pos}
use Rattle.cip_rational.proofs.Rational.Ratio.{ratio-add, ratio-cancel}
use Rattle.cip_frac.specs.Outcomes.{product_added}
use Rattle.cip_frac.proofs.InRange.{product_terms, step_in_range}

-- z, to 64 bits and back
abbrev pub word : ℤ → ℤ
word z = to_z w64 (of_z w64 z)

distributed : (n p : ℤ) (m : ℕ) → (n +ℤ p) *ℤ pos m ≡ n *ℤ pos m +ℤ p *ℤ pos m
distributed n p m =
    let h : up (n +ℤ p) + down n + down p ≡ down (n +ℤ p) + up n + up p = omega (arith, sum_is_lem n p) in
    same_in _ _ (omega (arith, ap (λ t. t * m) h, product_is (n +ℤ p) (pos m), product_is n (pos m), product_is p (pos m), sum_is_lem (n *ℤ pos m) (p *ℤ pos m)))

pub natural_word : (q : ℕ) → q < 2 ^ 63 → to_z w64 q ≡ pos q
natural_word q h = omega (arith, ints)

module _ (n p : ℤ) (m q : ℕ) (fn : FitsSigned w64 n) (fp : FitsSigned w64 p) (some_m : 0 < m) (some_q : 0 < q) where
  kn : word n ≡ n
  kn = to_z-of_z w64 n fn

  kp : word p ≡ p
  kp = to_z-of_z w64 p fp

  pub same_denominators : (total : ℤ) → m ≡ q → FitsSigned w64 (word n +ℤ word p) × (total ≡ word n +ℤ word p) → (0 < m) × (ratio (word total) m ≡ ratio n m +ℚ ratio p q)
  same_denominators total e h =
      let kt : word total ≡ n +ℤ p = rw (kn, kp) at (ap word h.1 ∙ to_z-of_z w64 (word n +ℤ word p) h.0) in
      let sum : ratio n m +ℚ ratio p m ≡ ratio (n *ℤ pos m +ℤ p *ℤ pos m) (m * m) = ratio-add n p m m some_m some_m in
      let cancelled : ratio ((n +ℤ p) *ℤ pos m) (m * m) ≡ ratio (n +ℤ p) m = ratio-cancel (n +ℤ p) m m some_m some_m in
      let once : ratio (n +ℤ p) m ≡ ratio n m +ℚ ratio p m = sym cancelled ∙ ap (λ z. ratio z (m * m)) (distributed n p m) ∙ sym sum in
      (some_m, ap (λ z. ratio z m) kt ∙ once ∙ ap (λ k. ratio n m +ℚ ratio p k) e)

  pub other_denominators : (first second total : ℤ) (common : ℕ) → m < 2 ^ 63 → q < 2 ^ 63 → FitsSigned w64 (word n *ℤ to_z w64 q) × (first ≡ word n *ℤ to_z w64 q) → FitsSigned w64 (word p *ℤ to_z w64 m) × (second ≡ word p *ℤ to_z w64 m) → FitsSigned w64 (word first +ℤ word second) × (total ≡ word first +ℤ word second) → common ≡ m * q → (0 < common) × (ratio (word total) common ≡ ratio n m +ℚ ratio p q)
  other_denominators first second total common sm sq h1 h2 h3 ec =
      let kf : word first ≡ n *ℤ pos q = rw (kn, natural_word q sq) at (ap word h1.1 ∙ to_z-of_z w64 (word n *ℤ to_z w64 q) h1.0) in
      let ks : word second ≡ p *ℤ pos m = rw (kp, natural_word m sm) at (ap word h2.1 ∙ to_z-of_z w64 (word p *ℤ to_z w64 m) h2.0) in
      let kt : word total ≡ n *ℤ pos q +ℤ p *ℤ pos m = rw (kf, ks) at (ap word h3.1 ∙ to_z-of_z w64 (word first +ℤ word second) h3.0) in
      (rw ec (mul-pos some_m some_q), ap₂ ratio kt ec ∙ sym (ratio-add n p m q some_m some_q))

pub word_size : (z : ℤ) → FitsSigned w64 z → unsigned_abs z ≤ 2 ^ 63
word_size z f = omega (arith, ints, f)

pub small_square : (k l : ℕ) → k ≤ 2 ^ 63 → l < 2 ^ 63 → k * l < 2 ^ 126
small_square k l p q =
    let r : l ≤ 9223372036854775807 = omega arith in
    let h : k * l ≤ 2 ^ 63 * 9223372036854775807 = mul-le-mul p r in
    omega arith

-- the lowest terms of a number in 64 bits
abbrev pub AreShort : ℚ → ℤ → ℕ → Type 0
AreShort x a b = (a ≡ numerator x) × (b ≡ denominator x) × (magnitude (numerator x) ≤ 2 ^ 63) × (b < 2 ^ 63)

pub under_some : (x y : ℚ) (b d under : ℕ) → b ≡ denominator x → d ≡ denominator y → under ≡ b * d → 0 < under
under_some x y b d under eb ed eu = rw (eu, eb, ed) (mul-pos (denominator-pos x) (denominator-pos y))

-- a sum with a product added
module _ (s x y : ℚ) (n a c : ℤ) (m b d : ℕ) (hs : AreShort s n m) (hx : AreShort x a b) (hy : AreShort y c d) (kn : word n ≡ n) (ka : word a ≡ a) (kc : word c ≡ c) (over : ℤ) (under : ℕ) (ho : FitsSigned w64 (word a *ℤ word c) × (over ≡ word a *ℤ word c)) (hu : (under ≡ b * d) × (under < 2 ^ 63)) where
  over_is : word over ≡ numerator x *ℤ numerator y
  over_is = ap word ho.1 ∙ to_z-of_z w64 (word a *ℤ word c) ho.0 ∙ ap₂ (λ u v. u *ℤ v) (ka ∙ hx.0) (kc ∙ hy.0)

  under_is : under ≡ denominator x * denominator y
  under_is = hu.0 ∙ ap₂ (λ u v. u * v) hx.1 hy.1

  over_size : unsigned_abs (numerator x) * unsigned_abs (numerator y) ≤ 2 ^ 63
  over_size =
      let f : FitsSigned w64 (numerator x *ℤ numerator y) = rw (ka, kc, hx.0, hy.0) at ho.0 in
      rw (← unsigned_abs-mul (numerator x) (numerator y)) (word_size (numerator x *ℤ numerator y) f)

  under_size : denominator x * denominator y < 2 ^ 63
  under_size = rw under_is at hu.1

  denominator_size : denominator s < 2 ^ 63
  denominator_size = rw hs.1 at hs.3

  added : product_added s x y ≡ Ok (s +ℚ x *ℚ y)
  added =
      step_in_range s x y
      (small_square (unsigned_abs (numerator s)) (denominator x * denominator y) hs.2 under_size)
      (small_square (unsigned_abs (numerator x) * unsigned_abs (numerator y)) (denominator s) over_size denominator_size)
      (small_square (denominator s) (denominator x * denominator y) (omega (arith, denominator_size)) under_size)

  pub fraction_step_is : (total : ℤ) (common : ℕ) (v : ℚ) → ratio total common ≡ ratio (word n) m +ℚ ratio (word over) under → word total ≡ total → v ≡ ratio (word total) common → product_added s x y ≡ Ok v
  fraction_step_is total common v e kt ev =
      let start : ratio (word n) m ≡ s = ap₂ ratio (kn ∙ hs.0) hs.1 ∙ is_ratio s in
      let product : ratio (word over) under ≡ x *ℚ y = ap₂ ratio over_is under_is ∙ sym (product_terms x y) in
      added ∙ ap Ok (sym (ev ∙ ap (λ z. ratio z common) kt ∙ e ∙ ap₂ (λ p q. p +ℚ q) start product))
