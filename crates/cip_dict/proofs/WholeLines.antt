-- Small numbers, and lines of whole numbers over one denominator.
use borrow.Author.Differences.{up, down, same_in, sum_is_lem, neg_is, product_is}
use Rattle.std.proofs.Common.{◌≡◌, ℕ, ◌+◌, ◌-◌, ◌*◌, ◌<◌, ◌^◌, ℤ, pos, neg_ℤ, ◌+ℤ◌, ◌*ℤ◌, unsigned_abs, false, ap, ap₂, ◌∙◌, arith, lit<}
use Rattle.std.proofs.lemmas.Int.{ints}
use Rattle.std.proofs.lemmas.Nat.{mul-le}
use Rattle.std.proofs.Math.Nat.{mul-pos}
use Rattle.cip_rational.specs.Rational.{ℚ, ◌+ℚ◌, ◌*ℚ◌, negate, inverse, oneℚ, ratio, numerator, denominator}
use Rattle.cip_rational.specs.Range.{magnitude, sum_overflows, product_overflows}
use Rattle.cip_rational.proofs.Rational.Ratio.{ratio_same, ratio-add, ratio-mul, ratio-cancel, ratio-negate, integer_ratio}
use Rattle.cip_rational.proofs.Rational.Inverse.{inverse_unique}
use Rattle.cip_rational.proofs.Rational.Rounding.{integer-one}
use Rattle.cip_rational.proofs.Range.InRange.{lowest-le}
use Rattle.cip_frac.proofs.InRange.{sum_in_range, product_in_range, product_size}
use Rattle.cip_dict.specs.WholeLines.{HasTermsBelow, WholeLinesTell}

small : (z : ℤ) (d : ℕ) → 0 < d → magnitude z < 2 ^ 42 → d < 2 ^ 42 → HasTermsBelow (2 ^ 42) (ratio z d)
small z d h p q = let l = lowest-le z d h in record { top = omega (arith, l.0, p); bottom = omega (arith, l.1, q) }

-- products of numbers below 2^42 and 2^84
two : (a b : ℕ) → a < 2 ^ 42 → b < 2 ^ 42 → a * b < 2 ^ 84
two a b p q = let l = mul-le a b (2 ^ 42 - 1) (2 ^ 42 - 1) (omega (arith, p)) (omega (arith, q)) in omega (arith, l)

three : (a b : ℕ) → a < 2 ^ 42 → b < 2 ^ 84 → a * b < 2 ^ 126
three a b p q = let l = mul-le a b (2 ^ 42 - 1) (2 ^ 84 - 1) (omega (arith, p)) (omega (arith, q)) in omega (arith, l)

products : (a b : ℚ) → HasTermsBelow (2 ^ 42) a → HasTermsBelow (2 ^ 42) b → product_overflows a b ≡ false
products a b h k =
    let s = two _ _ h.top k.top in
    let t = two _ _ h.bottom k.bottom in
    product_in_range a b (omega (arith, s)) (omega (arith, t))

sums : (a b c : ℚ) → HasTermsBelow (2 ^ 42) a → HasTermsBelow (2 ^ 42) b → HasTermsBelow (2 ^ 42) c → sum_overflows a (b *ℚ c) ≡ false
sums a b c h k l =
    let size = product_size b c in
    let s = two _ _ k.top l.top in
    let t = two _ _ k.bottom l.bottom in
    let top : unsigned_abs (numerator (b *ℚ c)) < 2 ^ 84 = omega (arith, size.0, s) in
    let bottom : denominator (b *ℚ c) < 2 ^ 84 = omega (arith, size.1, t) in
    let x = three _ _ h.top bottom in
    let y = three _ _ h.bottom top in
    let z = three _ _ h.bottom bottom in
    sum_in_range a (b *ℚ c) x (omega (arith, y)) z

-- a number times two others
times : (a b : ℤ) (c : ℕ) (k : ℕ) → (up (a *ℤ b *ℤ pos c) * k ≡ (up a * up b + down a * down b) * c * k) × (down (a *ℤ b *ℤ pos c) * k ≡ (up a * down b + down a * up b) * c * k)
times a b c k =
    let s = product_is a b in
    let t = product_is (a *ℤ b) (pos c) in
    (omega (arith, ap (λ n. n * k) t.0, ap (λ n. n * (c * k)) s.0), omega (arith, ap (λ n. n * k) t.1, ap (λ n. n * (c * k)) s.1))

one_is : (d : ℕ) (z : ℤ) → 0 < d → z ≡ pos d → ratio z d ≡ oneℚ
one_is d z h e = ratio_same z (pos 1) d 1 h (lit< tt) (omega (arith, ints, e)) ∙ integer_ratio (pos 1) ∙ integer-one

turned : (p d : ℕ) → 0 < p → 0 < d → inverse (ratio (pos p) d) ≡ ratio (pos d) p
turned p d h k =
    let e : pos p *ℤ pos d ≡ pos (d * p) = omega (arith, ints) in
    inverse_unique _ _ (ratio-mul (pos p) (pos d) d p k h ∙ one_is (d * p) _ (mul-pos k h) e)

turned_back : (p d : ℕ) → 0 < p → 0 < d → inverse (ratio (neg_ℤ (pos p)) d) ≡ ratio (neg_ℤ (pos d)) p
turned_back p d h k =
    let s = product_is (neg_ℤ (pos p)) (neg_ℤ (pos d)) in
    let u = neg_is (pos p) in
    let v = neg_is (pos d) in
    let e : neg_ℤ (pos p) *ℤ neg_ℤ (pos d) ≡ pos (d * p) = same_in _ _ (omega (arith, rw (u.0, u.1, v.0, v.1) at s)) in
    inverse_unique _ _ (ratio-mul (neg_ℤ (pos p)) (neg_ℤ (pos d)) d p k h ∙ one_is (d * p) _ (mul-pos k h) e)

-- n times d and p is n times their product
solved_same : (n : ℤ) (p d : ℕ) → n *ℤ pos d *ℤ pos p ≡ n *ℤ pos (d * p)
solved_same n p d =
    let s = times n (pos d) p 1 in
    let t = product_is n (pos (d * p)) in
    same_in _ _ (omega (arith, s.0, s.1, t.0, t.1))

solved : (n : ℤ) (p d : ℕ) → 0 < p → 0 < d → negate (ratio n d) *ℚ inverse (ratio (pos p) d) ≡ ratio (neg_ℤ n) p
solved n p d h k =
    ap₂ (λ s t. s *ℚ t) (ratio-negate n d) (turned p d h k)
    ∙ ratio-mul (neg_ℤ n) (pos d) d p k h
    ∙ ratio_same (neg_ℤ n *ℤ pos d) (neg_ℤ n) (d * p) p (mul-pos k h) h (solved_same (neg_ℤ n) p d)

solved_back_same : (n : ℤ) (p d : ℕ) → neg_ℤ n *ℤ neg_ℤ (pos d) *ℤ pos p ≡ n *ℤ pos (d * p)
solved_back_same n p d =
    let s = times (neg_ℤ n) (neg_ℤ (pos d)) p 1 in
    let t = product_is n (pos (d * p)) in
    let u = neg_is n in
    let v = neg_is (pos d) in
    same_in _ _ (omega (arith, rw (u.0, u.1, v.0, v.1) at s, t.0, t.1))

solved_back : (n : ℤ) (p d : ℕ) → 0 < p → 0 < d → negate (ratio n d) *ℚ inverse (ratio (neg_ℤ (pos p)) d) ≡ ratio n p
solved_back n p d h k =
    ap₂ (λ s t. s *ℚ t) (ratio-negate n d) (turned_back p d h k)
    ∙ ratio-mul (neg_ℤ n) (neg_ℤ (pos d)) d p k h
    ∙ ratio_same (neg_ℤ n *ℤ neg_ℤ (pos d)) n (d * p) p (mul-pos k h) h (solved_back_same n p d)

put_alone_same : (x y : ℤ) (d f g : ℕ) → x *ℤ pos g *ℤ y *ℤ pos (d * f) ≡ x *ℤ y *ℤ pos (d * (g * f))
put_alone_same x y d f g =
    let s = times (x *ℤ pos g) y (d * f) 1 in
    let t = times x y (d * (g * f)) 1 in
    let u = product_is x (pos g) in
    same_in _ _ (omega (
      arith,
      s.0,
      s.1,
      t.0,
      t.1,
      ap (λ n. n * (up y * (d * f))) u.0,
      ap (λ n. n * (down y * (d * f))) u.0,
      ap (λ n. n * (up y * (d * f))) u.1,
      ap (λ n. n * (down y * (d * f))) u.1,
    ))

put_alone : (x y : ℤ) (d f g : ℕ) → 0 < d → 0 < f → 0 < g → ratio (x *ℤ pos g) d *ℚ ratio y (g * f) ≡ ratio (x *ℤ y) (d * f)
put_alone x y d f g h k l =
    ratio-mul (x *ℤ pos g) y d (g * f) h (mul-pos l k)
    ∙ ratio_same (x *ℤ pos g *ℤ y) (x *ℤ y) (d * (g * f)) (d * f) (mul-pos h (mul-pos l k)) (mul-pos h k) (put_alone_same x y d f g)

-- n and z over d * f have the sum of n * f and z
put_same : (n z : ℤ) (d f : ℕ) → (n *ℤ pos (d * f) +ℤ z *ℤ pos d) *ℤ pos (d * f) ≡ (n *ℤ pos f +ℤ z) *ℤ pos (d * (d * f))
put_same n z d f =
    let s = product_is (n *ℤ pos (d * f) +ℤ z *ℤ pos d) (pos (d * f)) in
    let t = product_is (n *ℤ pos f +ℤ z) (pos (d * (d * f))) in
    let left = sum_is_lem (n *ℤ pos (d * f)) (z *ℤ pos d) in
    let right = sum_is_lem (n *ℤ pos f) z in
    let a = product_is n (pos (d * f)) in
    let b = product_is z (pos d) in
    let c = product_is n (pos f) in
    let left_is : up (n *ℤ pos (d * f) +ℤ z *ℤ pos d) + down n * (d * f) + down z * d ≡ down (n *ℤ pos (d * f) +ℤ z *ℤ pos d) + up n * (d * f) + up z * d = omega (arith, left, a, b) in
    let right_is : up (n *ℤ pos f +ℤ z) + down n * f + down z ≡ down (n *ℤ pos f +ℤ z) + up n * f + up z = omega (arith, right, c) in
    same_in _ _ (omega (arith, s.0, s.1, t.0, t.1, ap (λ m. m * (d * f)) left_is, ap (λ m. m * (d * (d * f))) right_is))

put : (n x y : ℤ) (d f g : ℕ) → 0 < d → 0 < f → 0 < g → ratio n d +ℚ ratio (x *ℤ pos g) d *ℚ ratio y (g * f) ≡ ratio (n *ℤ pos f +ℤ x *ℤ y) (d * f)
put n x y d f g h k l =
    ap (λ t. ratio n d +ℚ t) (put_alone x y d f g h k l)
    ∙ ratio-add n (x *ℤ y) d (d * f) h (mul-pos h k)
    ∙ ratio_same (n *ℤ pos (d * f) +ℤ x *ℤ y *ℤ pos d) (n *ℤ pos f +ℤ x *ℤ y) (d * (d * f)) (d * f) (mul-pos h (mul-pos h k)) (mul-pos h k) (put_same n (x *ℤ y) d f)

divided : (n : ℤ) (d g : ℕ) → 0 < d → 0 < g → ratio (n *ℤ pos g) (d * g) ≡ ratio n d
divided n d g h k = ratio-cancel n d g h k

pub whole_lines_tell : WholeLinesTell
whole_lines_tell = record {
  small = small;
  products = products;
  sums = sums;
  turned = turned;
  turned_back = turned_back;
  solved = solved;
  solved_back = solved_back;
  put = put;
  put_alone = put_alone;
  divided = divided;
}
