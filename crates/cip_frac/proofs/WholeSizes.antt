-- Sums and products of whole numbers that are small enough do not overflow.
--     IsWithin n q         q is a whole number of size at most n
--     within_sum, within_product, within_added, within_dot
use Rattle.std.proofs.Common.{◌≡◌, ℕ, ◌+◌, ◌*◌, suc, ◌≤◌, false, List, [], ◌∷◌, length, ℤ, pos, ◌+ℤ◌, ◌*ℤ◌, Result, Ok, Err, refl, sym, ap₂, ◌∙◌, arith, lit≤, subst}
use Rattle.std.specs.List.{AllByRecursion}
use Rattle.std.proofs.lemmas.Int.{unsigned_abs-mul}
use Rattle.std.proofs.Math.Nat.{mul-le-mul}
use Rattle.cip_rational.specs.Rational.{ℚ, ◌+ℚ◌, ◌*ℚ◌, integer, denominator, zeroℚ}
use Rattle.cip_rational.proofs.Rational.Lowest.{numerator-integer, denominator-integer}
use Rattle.cip_rational.proofs.Rational.Rounding.{integer-add, integer-mul, integer-zero}
use Rattle.cip_rational.specs.Gcd.{gcd}
use Rattle.cip_rational.proofs.Gcd.{gcd_unique}
use Rattle.cip_rational.specs.Range.{largest, magnitude, sum_overflows, product_overflows, raised}
use Rattle.cip_rational.proofs.Range.InRange.{least_common, sum_in, fits_product, fits-integer}
use Rattle.cip_rational.proofs.Integers.{gcd_one, times_one}
use Rattle.cip_frac.specs.declared.operations.Wide.{Wide}
use Rattle.cip_frac.specs.Outcomes.{sum_outcome, and_then, product_added, dot_from}
use Rattle.cip_frac.proofs.InRange.{size_of_sum}

-- q is a whole number of size at most n
pub record IsWithin (n : ℕ) (q : ℚ) : Type 0 where
  pub number : ℤ
  pub is_number : q ≡ integer number
  pub within : magnitude number ≤ n

pub zero_within : (n : ℕ) → IsWithin n zeroℚ
zero_within n = record { number = pos 0; is_number = sym integer-zero; within = omega arith }

pub more_within : (m n : ℕ) (q : ℚ) → m ≤ n → IsWithin m q → IsWithin n q
more_within m n q l h = record { number = h.number; is_number = h.is_number; within = omega (arith, h.within, l) }

ones_gcd : gcd 1 1 ≡ 1
ones_gcd = gcd_unique 1 1 1 (gcd_one 1)

-- the numbers that a sum of two integers forms
raised_integer : (y z : ℤ) → raised (gcd (denominator (integer y)) (denominator (integer z))) (integer y) (integer z) ≡ y
raised_integer y z =
    rw (numerator-integer y, denominator-integer y, denominator-integer z, ones_gcd) (times_one y)

raised_back : (y z : ℤ) → raised (gcd (denominator (integer y)) (denominator (integer z))) (integer z) (integer y) ≡ z
raised_back y z =
    rw (numerator-integer z, denominator-integer y, denominator-integer z, ones_gcd) (times_one z)

bottom_integer : (y z : ℤ) → least_common (integer y) (integer z) ≡ 1
bottom_integer y z = rw (denominator-integer y, denominator-integer z, ones_gcd) refl

-- a sum of integers of the range, whose sum is in the range
integer_sum : (y z : ℤ) → magnitude y ≤ largest → magnitude z ≤ largest → magnitude (y +ℤ z) ≤ largest → sum_overflows (integer y) (integer z) ≡ false
integer_sum y z p q r = sum_in (integer y) (integer z) (record {
  left = rw (raised_integer y z) p;
  right = rw (raised_back y z) q;
  total = rw (raised_integer y z, raised_back y z) r;
  bottom = rw (bottom_integer y z) (lit≤ tt);
})

pub within_sum : (m n : ℕ) (a b : ℚ) → IsWithin m a → IsWithin n b → m + n ≤ largest → (sum_overflows a b ≡ false) × IsWithin (m + n) (a +ℚ b)
within_sum m n a b s t h =
    let y = s.number in
    let z = t.number in
    let k : magnitude (y +ℤ z) ≤ magnitude y + magnitude z = size_of_sum y z in
    let p : magnitude y ≤ largest = omega (arith, s.within, h) in
    let q : magnitude z ≤ largest = omega (arith, t.within, h) in
    let r : magnitude (y +ℤ z) ≤ largest = omega (arith, s.within, t.within, h, k) in (
      rw (s.is_number, t.is_number) (integer_sum y z p q r),
      record { number = y +ℤ z; is_number = ap₂ (λ u v. u +ℚ v) s.is_number t.is_number ∙ sym (integer-add y z); within = omega (arith, s.within, t.within, k) },
    )

pub within_product : (m n : ℕ) (a b : ℚ) → IsWithin m a → IsWithin n b → m * n ≤ largest → (product_overflows a b ≡ false) × IsWithin (m * n) (a *ℚ b)
within_product m n a b s t h =
    let y = s.number in
    let z = t.number in
    let e : a *ℚ b ≡ integer (y *ℤ z) = ap₂ (λ u v. u *ℚ v) s.is_number t.is_number ∙ sym (integer-mul y z) in
    let k : magnitude (y *ℤ z) ≤ m * n = rw (unsigned_abs-mul y z) (mul-le-mul s.within t.within) in (
      fits_product a b (rw e (fits-integer (y *ℤ z) (omega (arith, k, h)))),
      record { number = y *ℤ z; is_number = e; within = k },
    )

-- ---- chains

-- an outcome is a value of size at most n
abbrev pub IsOkWithin : ℕ → Result ℚ Wide → Type 0
IsOkWithin n (Ok q) = IsWithin n q
IsOkWithin n (Err wide) = ⊥

sum_is : (n : ℕ) (a b : ℚ) → (sum_overflows a b ≡ false) × IsWithin n (a +ℚ b) → IsOkWithin n (sum_outcome a b)
sum_is n a b h = rw h.0 h.1

pub within_added : (k m n : ℕ) (sum a b : ℚ) → IsWithin k sum → IsWithin m a → IsWithin n b → k + m * n ≤ largest → IsOkWithin (k + m * n) (product_added sum a b)
within_added k m n sum a b r s t h =
    let p = within_product m n a b s t (omega (arith, h)) in
    rw p.0 (sum_is (k + m * n) sum (a *ℚ b) (within_sum k (m * n) sum (a *ℚ b) r p.1 h))

pub then_within : (n : ℕ) (r : Result ℚ Wide) (m : ℕ) (next : ℚ → Result ℚ Wide) → IsOkWithin m r → ((q : ℚ) → IsWithin m q → IsOkWithin n (next q)) → IsOkWithin n (and_then r next)
then_within n (Ok q) m next h f = f q h
then_within n (Err wide) m next h f = absurd h

-- the products of two lists: k and, for each of the first, m times n
pub within_dot : (k m n : ℕ) (sum : ℚ) (us vs : List ℚ) → IsWithin k sum → AllByRecursion (IsWithin m) us → AllByRecursion (IsWithin n) vs → k + length us * (m * n) ≤ largest → IsOkWithin (k + length us * (m * n)) (dot_from sum us vs)
within_dot k m n sum [] vs r s t l = subst (λ j. IsWithin j sum) (omega arith) r
within_dot k m n sum (u ∷ us) [] r s t l = more_within k _ sum (omega arith) r
within_dot k m n sum (u ∷ us) (v ∷ vs) r s t l =
    let e : k + m * n + length us * (m * n) ≡ k + suc (length us) * (m * n) = omega arith in
    subst (λ j. IsOkWithin j (dot_from sum (u ∷ us) (v ∷ vs))) e
    (then_within (k + m * n + length us * (m * n)) (product_added sum u v) (k + m * n) (λ more. dot_from more us vs)
    (within_added k m n sum u v r s.0 t.0 (omega (arith, l, e)))
    (λ q w. within_dot (k + m * n) m n q us vs w s.1 t.1 (omega (arith, l, e))))
