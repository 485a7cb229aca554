-- A number without its trailing zeros, and what halves leave of a greatest common divisor.
use Rattle.std.proofs.Common.{◌≡◌, ◌≢◌, ℕ, zero, suc, ◌+◌, ◌*◌, ◌-◌, ◌/◌, ◌%◌, ◌<◌, ◌≤◌, ◌^◌, min, max, pos, sym, subst, ap, arith, ◌∙◌, refl, ◌⊎◌, inl, inr}
use Rattle.std.specs.Int.{IsGcd, abs_diff}
use lib.Count.{count_trailing_zeros, under}
use Prim.Native.Nat.{◌∣◌}
use Rattle.std.proofs.lemmas.Nat.{pow-add}
use Rattle.std.proofs.lemmas.Int.{ints, by_lt_z}
use Rattle.std.proofs.lemmas.Nat.Gcd.{dvd_refl, le_of_dvd, IsGcd-swap, IsGcd-from_sub, IsGcd-from_mod}
use Rattle.std.proofs.Math.Nat.{div-div-eq-div-mul, div-one, pow-succ', mul-dvd-mul_left, mul_comm, mod-eq_of_lt}
use Rattle.cip_frac.proofs.Divisors.{IsCoprime, divides_scaled, gcd-product, coprime-product}
use Rattle.cip_rational.proofs.Integers.{gcd_one}

-- n without t factors of two: they are all there, and the rest is odd
pub record IsStripped (n t : ℕ) : Type 0 where
  pub exact : n / 2 ^ t * 2 ^ t ≡ n
  pub odd : n / 2 ^ t % 2 ≡ 1

one_more : (n t : ℕ) → n % 2 ≡ 0 → IsStripped (n / 2) t → IsStripped n (suc t)
one_more n t e r =
    let p : n / 2 ^ suc t ≡ n / 2 / 2 ^ t = ap (λ m. n / m) (pow-succ' 2 t) ∙ sym (div-div-eq-div-mul n 2 (2 ^ t)) in
    record {
      exact = rw (p, pow-succ' 2 t) (omega (arith, ap (λ m. 2 * m) r.exact, e));
      odd = rw p r.odd;
    }

none_more : (n : ℕ) → n % 2 ≡ 1 → IsStripped n 0
none_more n e = record { exact = omega (arith, div-one n); odd = ap (λ m. m % 2) (div-one n) ∙ e }

by_digit : (t n d : ℕ) → 0 < n → n % 2 ≡ d → (0 < n / 2 → IsStripped (n / 2) t) → IsStripped n (under d t)
by_digit t n zero p e f = one_more n t e (f (omega (arith, p, e)))
by_digit t n (suc d) p e f = none_more n (omega (arith, e))

pub stripped : (k n : ℕ) → 0 < n → n < 2 ^ k → IsStripped n (count_trailing_zeros k n)
unfolding count_trailing_zeros
stripped zero n p h = absurd (omega arith)
stripped (suc k) n p h =
    by_digit (count_trailing_zeros k (n / 2)) n (n % 2) p refl (λ q. stripped k (n / 2) q (omega (arith, h, pow-succ' 2 k)))

odd_apart : (low t : ℕ) → low % 2 ≡ 1 → IsCoprime low (2 ^ t)
odd_apart low zero h = gcd_one low
odd_apart low (suc t) h =
    let two : IsCoprime low 2 = IsGcd-from_mod low 2 1 (rw h (gcd_one 2)) in
    rw (pow-succ' 2 t) (coprime-product low 2 (2 ^ t) two (odd_apart low t h))

-- beside an odd number the factors of two do not count
pub stripped_gcd : (n t low g : ℕ) → IsStripped n t → low % 2 ≡ 1 → IsGcd (n / 2 ^ t) low g → IsGcd n low g
stripped_gcd n t low g s h k =
    let p : IsGcd low (2 ^ t * (n / 2 ^ t)) g = gcd-product low (2 ^ t) (n / 2 ^ t) g (odd_apart low t h) (IsGcd-swap _ _ _ k) in
    let e : 2 ^ t * (n / 2 ^ t) ≡ n = mul_comm (2 ^ t) (n / 2 ^ t) ∙ s.exact in
    IsGcd-swap _ _ _ (subst (λ m. IsGcd low m g) e p)

ends : (x y : ℕ) → ((min x y ≡ x) × (max x y ≡ y)) ⊎ ((min x y ≡ y) × (max x y ≡ x))
ends x y = by_lt_z (pos x) (pos y) (λ h. inl (omega (arith, ints, h), omega (arith, ints, h))) (λ h. inr (omega (arith, ints, h), omega (arith, ints, h)))

-- one step of the loop over two odd numbers
module _ (x y rest low : ℕ) (ox : x % 2 ≡ 1) (oy : y % 2 ≡ 1) (s : x ≢ y) (er : rest ≡ abs_diff x y) (el : low ≡ min x y) (small : rest < 2 ^ 64) where
  pub low_odd : low % 2 ≡ 1
  low_odd = elim (ends x y) [ inl e ↦ ap (λ m. m % 2) (el ∙ e.0) ∙ ox | inr e ↦ ap (λ m. m % 2) (el ∙ e.0) ∙ oy ]

  rest_stripped : IsStripped rest (count_trailing_zeros 64 rest)
  rest_stripped = stripped 64 rest (omega (arith, er, s)) small

  pub next_odd : rest / 2 ^ count_trailing_zeros 64 rest % 2 ≡ 1
  next_odd = rest_stripped.odd

  pub same_gcd : (g : ℕ) → IsGcd (rest / 2 ^ count_trailing_zeros 64 rest) low g → IsGcd x y g
  same_gcd g h =
      let p : IsGcd rest low g = stripped_gcd rest _ low g rest_stripped low_odd h in
      elim (ends x y) [
        | inl e ↦
            let r : rest ≡ y - x = omega (arith, er, e.0, e.1) in
            let le : x ≤ y = omega (arith, e.0, e.1) in
            IsGcd-swap y x g (IsGcd-from_sub y x g le (subst (λ m. IsGcd m x g) r (subst (λ m. IsGcd rest m g) (el ∙ e.0) p)))
        | inr e ↦
            let r : rest ≡ x - y = omega (arith, er, e.0, e.1) in
            let le : y ≤ x = omega (arith, e.0, e.1) in
            IsGcd-from_sub x y g le (subst (λ m. IsGcd m y g) r (subst (λ m. IsGcd rest m g) (el ∙ e.0) p))
      ]

-- ---- both numbers with their factors of two

scaled_gcd : (k a b g : ℕ) → IsGcd a b g → IsGcd (k * a) (k * b) (k * g)
scaled_gcd k a b g h = (mul-dvd-mul_left _ k h.0, mul-dvd-mul_left _ k h.1, λ e p q. divides_scaled a b g k e h p q)

fewer_first : (a b first second r : ℕ) → IsStripped a first → IsStripped b second → first ≤ second → IsGcd (a / 2 ^ first) (b / 2 ^ second) r → IsGcd a b (r * 2 ^ first)
fewer_first a b first second r sa sb le h =
    let k : ℕ = second - first in
    let e : second ≡ first + k = omega arith in
    let p : IsGcd (a / 2 ^ first) (2 ^ k * (b / 2 ^ second)) r = gcd-product _ (2 ^ k) _ r (odd_apart (a / 2 ^ first) k sa.odd) h in
    let q = scaled_gcd (2 ^ first) _ _ r p in
    let left : 2 ^ first * (a / 2 ^ first) ≡ a = mul_comm _ _ ∙ sa.exact in
    let power : 2 ^ second ≡ 2 ^ first * 2 ^ k = ap (λ m. 2 ^ m) e ∙ pow-add 2 first k in
    let right : 2 ^ first * (2 ^ k * (b / 2 ^ second)) ≡ b = omega (arith, sb.exact, ap (λ m. b / 2 ^ second * m) power) in
    let last : 2 ^ first * r ≡ r * 2 ^ first = mul_comm _ _ in
    subst (λ m. IsGcd a b m) last (subst (λ m. IsGcd a m (2 ^ first * r)) right (subst (λ m. IsGcd m (2 ^ first * (2 ^ k * (b / 2 ^ second))) (2 ^ first * r)) left q))

pub whole_gcd : (a b r m : ℕ) → 0 < a → 0 < b → a < 2 ^ 64 → b < 2 ^ 64 → IsGcd (a / 2 ^ count_trailing_zeros 64 a) (b / 2 ^ count_trailing_zeros 64 b) r → m ≡ min (count_trailing_zeros 64 a) (count_trailing_zeros 64 b) → IsGcd a b (r * 2 ^ m % 18446744073709551616)
whole_gcd a b r m za zb ha hb h em = subst (λ n. IsGcd a b n) (sym (mod-eq_of_lt small)) both
  where
    first : ℕ
    first = count_trailing_zeros 64 a

    second : ℕ
    second = count_trailing_zeros 64 b

    sa : IsStripped a (count_trailing_zeros 64 a)
    sa = stripped 64 a (omega (arith, za)) ha

    sb : IsStripped b (count_trailing_zeros 64 b)
    sb = stripped 64 b (omega (arith, zb)) hb

    both : IsGcd a b (r * 2 ^ m)
    both = by_lt_z (pos (count_trailing_zeros 64 a)) (pos (count_trailing_zeros 64 b))
        (λ l. let e : m ≡ count_trailing_zeros 64 a = omega (arith, ints, l, em) in
        subst (λ n. IsGcd a b (r * 2 ^ n)) (sym e) (fewer_first a b _ _ r sa sb (omega (arith, ints, l)) h))
        (λ l. let e : m ≡ count_trailing_zeros 64 b = omega (arith, ints, l, em) in
        subst (λ n. IsGcd a b (r * 2 ^ n)) (sym e) (IsGcd-swap _ _ _ (fewer_first b a _ _ r sb sa (omega (arith, ints, l)) (IsGcd-swap _ _ _ h))))

    small : r * 2 ^ m < 18446744073709551616
    small = let l : r * 2 ^ m ≤ a = le_of_dvd (omega (arith, za)) both.0 in omega (arith, ha)

pub odd_part : (n : ℕ) → 0 < n → n < 2 ^ 64 → n / 2 ^ count_trailing_zeros 64 n % 2 ≡ 1
odd_part n z h = (stripped 64 n (omega (arith, z)) h).odd

-- where the two numbers are equal
pub same_itself : (x y : ℕ) → x ≡ y → IsGcd x y x
same_itself x y e = (dvd_refl x, subst (λ n. x ∣ n) e (dvd_refl x), λ d p q. p)
