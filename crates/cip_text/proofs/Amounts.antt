-- Numbers that are kept up to 2^127-1.
use Rattle.std.proofs.Common.{◌≡◌, ℕ, ◌*◌, ◌^◌, ◌<◌, ◌≤◌, Bool, true, false, cond, leb, None, Some, refl, ap, arith, leb-true, leb-false, lit≤}
use Rattle.std.proofs.lemmas.Bool.{lt-leb}
use Rattle.std.proofs.Math.Nat.{one-le-pow, pow-le-pow_right, le_trans, le-mul_of_pos_right}
use Rattle.cip_rational.specs.Range.{largest}
use Rattle.cip_text.specs.Amounts.{capped}

pub capped_none : (n : ℕ) → largest < n → capped n ≡ None
capped_none n h = ap (λ b. cond b (Some n) None) (lt-leb n largest h)

pub capped_value : (n v : ℕ) → Some v ≡ capped n → (v ≡ n) × (v ≤ largest)
capped_value n v e = go (leb n largest) refl e
  where
    go : (b : Bool) → leb n largest ≡ b → Some v ≡ cond b (Some n) None → (v ≡ n) × (v ≤ largest)
    go true t q = let same : v ≡ n = cc in (same, omega (arith, leb-true n largest t))
    go false t q = absurd (cc)

pub capped_over : (n : ℕ) → None ≡ capped n → largest < n
capped_over n e = go (leb n largest) refl e
  where
    go : (b : Bool) → leb n largest ≡ b → None ≡ cond b (Some n) None → largest < n
    go true t q = absurd (cc)
    go false t q = leb-false n largest t

-- a power of ten above 38 is too large
pub power_over : (k : ℕ) → 38 < k → largest < 10 ^ k
power_over k h = let p : 10 ^ 39 ≤ 10 ^ k = pow-le-pow_right {n = 10} (lit≤ tt) h in le_trans (lit≤ tt) p

pub power_some : (k : ℕ) → 0 < 10 ^ k
power_some k = one-le-pow k 10 (lit≤ tt)

pub product_over : (n k : ℕ) → largest < n → largest < n * 10 ^ k
product_over n k h = let p : n ≤ n * 10 ^ k = le-mul_of_pos_right n (power_some k) in omega (arith, p, h)

pub product_far : (n k : ℕ) → 0 < n → 38 < k → largest < n * 10 ^ k
product_far n k some h =
    let p : 1 * 10 ^ k ≤ n * 10 ^ k = grind arith in
    let q : largest < 10 ^ k = power_over k h in
    omega (arith, p, q)
