-- The greatest common divisor, by Euclid's steps.
use Rattle.std.proofs.Common.{◌≡◌, ℕ, zero, suc, ◌*◌, ◌/◌, ◌%◌, ◌<◌, ◌≤◌, refl, sym, ap, subst, arith, mod-lt, zero-lt-suc}
use Rattle.std.specs.Int.{IsGcd, ◌∣◌}
use Rattle.std.proofs.lemmas.Nat.Gcd.{IsGcd-from_zero, IsGcd-from_mod, dvd_antisymm}
use native.Mathlib.Nat.{dvd-mul_right, dvd_of_mul-dvd-mul_left, mul-dvd-mul_left, mul-div_cancel', pos_of_dvd_of_pos, eq_of_mul-eq-mul_left}

-- what Euclid's algorithm comes to from a and b in that many steps
abbrev euclid : ℕ → ℕ → ℕ → ℕ
euclid zero a b = a
euclid (suc k) a zero = a
euclid (suc k) a (suc b) = euclid k (suc b) (a % suc b)

-- the greatest common divisor of a and b: b steps are enough, since each lowers the second number
unfoldable pub gcd : ℕ → ℕ → ℕ
gcd a b = euclid b a b

euclid_lem : (k a b : ℕ) → b ≤ k → IsGcd a b (euclid k a b)
euclid_lem zero a b h = IsGcd-from_zero a b (omega arith)
euclid_lem (suc k) a zero h = IsGcd-from_zero a 0 refl
euclid_lem (suc k) a (suc b) h =
    let m : a % suc b < suc b = mod-lt a (zero-lt-suc b) in
    IsGcd-from_mod a (suc b) _ (euclid_lem k (suc b) (a % suc b) (omega arith))

pub gcd_lem : (a b : ℕ) → IsGcd a b (gcd a b)
unfolding gcd
gcd_lem a b = euclid_lem b a b (omega arith)

pub gcd-pos : (a b : ℕ) → 0 < b → 0 < gcd a b
gcd-pos a b h = pos_of_dvd_of_pos (gcd_lem a b).1 h

-- a common factor comes out
pub gcd-mul : (k a b : ℕ) → 0 < k → gcd (k * a) (k * b) ≡ k * gcd a b
gcd-mul k a b h =
    let whole : IsGcd (k * a) (k * b) (gcd (k * a) (k * b)) = gcd_lem (k * a) (k * b) in
    let part : IsGcd a b (gcd a b) = gcd_lem a b in
    let e : k * (gcd (k * a) (k * b) / k) ≡ gcd (k * a) (k * b) =
    mul-div_cancel' k (whole.2 k (dvd-mul_right k a) (dvd-mul_right k b)) in
    let left : gcd (k * a) (k * b) / k ∣ a = dvd_of_mul-dvd-mul_left _ h (subst (λ n. n ∣ k * a) (sym e) whole.0) in
    let right : gcd (k * a) (k * b) / k ∣ b = dvd_of_mul-dvd-mul_left _ h (subst (λ n. n ∣ k * b) (sym e) whole.1) in
    dvd_antisymm
    (subst (λ n. n ∣ k * gcd a b) e (mul-dvd-mul_left _ k (part.2 _ left right)))
    (whole.2 (k * gcd a b) (mul-dvd-mul_left _ k part.0) (mul-dvd-mul_left _ k part.1))

-- a / d and b / e are one number: so are the parts that two divisors in the ratio of d and e leave
pub quotients_same : (a b d e g h : ℕ) → 0 < g * e → g * e ≡ h * d → a * e ≡ b * d → g ∣ a → h ∣ b → a / g ≡ b / h
quotients_same a b d e g h p r s i j =
    let x : g * (a / g) ≡ a = mul-div_cancel' g i in
    let y : h * (b / h) ≡ b = mul-div_cancel' h j in
    eq_of_mul-eq-mul_left (g * e) p (a / g) (b / h)
    (omega (arith, ap (λ t. t * e) x, ap (λ t. t * d) y, ap (λ t. t * (b / h)) r))
