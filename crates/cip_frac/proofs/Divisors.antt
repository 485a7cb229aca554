-- Numbers without a common divisor, and the greatest common divisor of sums and products.
use Rattle.std.proofs.Common.{◌≡◌, ℕ, zero, suc, ◌+◌, ◌*◌, ◌/◌, ◌%◌, ◌<◌, ◌≤◌, sym, subst, ap, arith}
use Rattle.std.specs.Int.{IsGcd}
use Prim.Native.Nat.{◌∣◌}
use Rattle.std.proofs.lemmas.Nat.Gcd.{dvd_refl, dvd-zero, dvd_trans, IsGcd-swap, le_of_dvd}
use Rattle.std.proofs.Math.Nat.{dvd-mul_left, dvd-mul_left_of_dvd, dvd-mul_right_of_dvd, mul-dvd-mul_left, mul-dvd-mul_right, dvd_of_mul-dvd-mul_right, dvd-add_iff_right, dvd-mod_iff, mul_comm, mul-one, one-mul, one-dvd, div-mul_cancel, div-add-mod}

-- a and b have no common divisor but 1
abbrev pub IsCoprime : ℕ → ℕ → Type 0
IsCoprime a b = IsGcd a b 1

to_mod : (a b g : ℕ) → IsGcd a b g → IsGcd b (a % b) g
to_mod a b g h = (h.1, (dvd-mod_iff g h.1).1 h.0, λ d p q. h.2 d ((dvd-mod_iff d p).0 q) p)

scaled_split : (k a b : ℕ) → k * a ≡ k * b * (a / b) + k * (a % b)
scaled_split k a b = let e : b * (a / b) + a % b ≡ a = div-add-mod a b in omega (arith, ap (λ n. k * n) e)

-- a divisor of both multiples divides that multiple of the greatest common divisor
scaled_with_fuel : (fuel a b g k e : ℕ) → b < fuel → IsGcd a b g → e ∣ k * a → e ∣ k * b → e ∣ k * g
scaled_with_fuel zero a b g k e small h p q = absurd (omega arith)
scaled_with_fuel (suc fuel) a zero g k e small h p q = dvd_trans e p (mul-dvd-mul_left a k (h.2 a (dvd_refl a) (dvd-zero a)))
scaled_with_fuel (suc fuel) a (suc b) g k e small h p q =
    scaled_with_fuel fuel (suc b) (a % suc b) g k e (omega arith) (to_mod a (suc b) g h) q
    ((dvd-add_iff_right e (dvd-mul_right_of_dvd e q (a / suc b))).1
    (subst (λ n. e ∣ n) (scaled_split k a (suc b)) p))

pub divides_scaled : (a b g k e : ℕ) → IsGcd a b g → e ∣ k * a → e ∣ k * b → e ∣ k * g
divides_scaled a b g k e h p q = scaled_with_fuel (suc b) a b g k e (omega arith) h p q

-- a divisor of a product that is coprime to one factor divides the other
pub divides_other : (d a c : ℕ) → IsCoprime d a → d ∣ a * c → d ∣ c
divides_other d a c h p =
    subst (λ n. d ∣ n) (mul-one c)
    (divides_scaled d a 1 c d h (dvd-mul_left d c) (subst (λ n. d ∣ n) (mul_comm a c) p))

pub coprime_from_divisors : (a b x y : ℕ) → IsCoprime a b → x ∣ a → y ∣ b → IsCoprime x y
coprime_from_divisors a b x y h p q =
    (one-dvd x, one-dvd y, λ e r s. h.2 e (dvd_trans e r p) (dvd_trans e s q))

pub coprime-product : (a b c : ℕ) → IsCoprime a b → IsCoprime a c → IsCoprime a (b * c)
coprime-product a b c h k = (
  one-dvd a,
  one-dvd (b * c),
  λ e p q.
      k.2 e p (divides_other e b c (coprime_from_divisors a b e b h p (dvd_refl b)) q),
)

pub coprime_products : (a c b d : ℕ) → IsCoprime a b → IsCoprime a d → IsCoprime c b → IsCoprime c d → IsCoprime (a * c) (b * d)
coprime_products a c b d ab ad cb cd =
    IsGcd-swap (b * d) (a * c) 1
    (coprime-product (b * d) a c
    (IsGcd-swap a (b * d) 1 (coprime-product a b d ab ad))
    (IsGcd-swap c (b * d) 1 (coprime-product c b d cb cd)))

-- what is left of two numbers without their greatest common divisor
pub coprime_rests : (a b g : ℕ) → 0 < g → IsGcd (a * g) (b * g) g → IsCoprime a b
coprime_rests a b g some h = (
  one-dvd a,
  one-dvd b,
  λ e p q.
      dvd_of_mul-dvd-mul_right {k = g} e some
      (subst (λ n. e * g ∣ n) (sym (one-mul g))
      (h.2 (e * g) (mul-dvd-mul_right e p g) (mul-dvd-mul_right e q g))),
)

pub coprime_quotients : (a b g : ℕ) → 0 < g → IsGcd a b g → IsCoprime (a / g) (b / g)
coprime_quotients a b g some h =
    coprime_rests (a / g) (b / g) g some
    (subst (λ n. IsGcd n (b / g * g) g) (sym (div-mul_cancel g h.0))
    (subst (λ n. IsGcd a n g) (sym (div-mul_cancel g h.1)) h))

-- a factor that is coprime to the other number adds nothing
pub gcd-product : (t m g r : ℕ) → IsCoprime t m → IsGcd t g r → IsGcd t (m * g) r
gcd-product t m g r h k = (
  k.0,
  dvd-mul_left_of_dvd r k.1 m,
  λ e p q.
      k.2 e p (divides_other e m g (coprime_from_divisors t m e m h p (dvd_refl m)) q),
)

pub positive_from_IsGcd : (a b g : ℕ) → 0 < b → IsGcd a b g → 0 < g
positive_from_IsGcd a b zero some h = let e : b ≡ b / 0 * 0 = sym (div-mul_cancel 0 h.1) in omega arith
positive_from_IsGcd a b (suc g) some h = omega arith

pub gcd_below : (a b g : ℕ) → 0 < b → IsGcd a b g → g ≤ b
gcd_below a b g some h = le_of_dvd some h.1
