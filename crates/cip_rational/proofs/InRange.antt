-- Numbers that texts say are in the range.
use Rattle.std.proofs.Common.{◌≡◌, ℕ, zero, suc, ◌+◌, ◌*◌, ◌^◌, ◌<◌, ◌≤◌, Bool, true, false, ◌&&◌, List, length, Some, refl, sym, subst, ◌∙◌, arith, lit≤, zero-lt-suc}
use Rattle.std.specs.Prelude.{nat_le, nat_lt, ◌-◌}
use Rattle.std.specs.List.{list_any, before_first, after_first}
use Rattle.std.proofs.lemmas.Bool.{cond_both, leb-true}
use Rattle.std.proofs.Math.Nat.{one-le-pow, pow-le-pow_right, le_trans, le-mul_of_pos_right}
use Rattle.cip_rational.specs.Rational.{ℚ, ratio}
use Rattle.cip_rational.specs.Range.{largest, magnitude, fits_range}
use Rattle.cip_rational.proofs.Range.InRange.{fits_in, fits-ratio}
use Rattle.cip_rational.specs.Numeral.{Numeral, Exact, NotANumber, Huge, TooFine, signed, value_of, without_sign, is_minus, whole_numeral, decimal_numeral, scaled, is_unsigned, are_digits, digits_value, size_of, all_digits, exponent_up, exponent_down, zeros_at_end, decimals, unsigned_numeral, numeral_of}
use Rattle.cip_rational.specs.FractionText.{is_slash, quotient_numeral, written_quotient, slashed, fraction_of}
use Rattle.cip_rational.specs.NumeralStatements.{IsInRange}

-- a numeral with a value is in the range
pub record IsSound (said : Numeral) : Type 0 where
  pub told : (negative : Bool) (size below : ℕ) → said ≡ Exact negative size below → IsInRange negative size below

sound_number : (negative : Bool) (size below : ℕ) → IsInRange negative size below → IsSound (Exact negative size below)
sound_number negative size below r = record {
  told = λ n s b e.
      let p : negative ≡ n = cc in
      let q : size ≡ s = cc in
      let t : below ≡ b = cc in
      record {
        small_size = subst (λ (x : ℕ). x ≤ largest) q r.small_size;
        positive = subst (λ (x : ℕ). 0 < x) t r.positive;
        small_below = subst (λ (x : ℕ). x ≤ largest) t r.small_below;
        zero_unsigned = λ z. sym p ∙ r.zero_unsigned (q ∙ z);
      };
}

sound_no_number : IsSound NotANumber
sound_no_number = record { told = λ n s b e. cc }

sound_huge : (negative : Bool) → IsSound (Huge negative)
sound_huge negative = record { told = λ n s b e. cc }

sound_fine : IsSound TooFine
sound_fine = record { told = λ n s b e. cc }

sound_zero : IsSound (Exact false 0 1)
sound_zero = sound_number false 0 1 (record { small_size = lit≤ tt; positive = lit≤ tt; small_below = lit≤ tt; zero_unsigned = λ _. refl })

pub both_left : (a b : Bool) → (a && b) ≡ true → a ≡ true
both_left true b e = refl
both_left false b e = e

pub both_right : (a b : Bool) → (a && b) ≡ true → b ≡ true
both_right true b e = e
both_right false b e = absurd (cc)

-- a power of ten up to 10 ^ 38
pub power_small : (k : ℕ) → k ≤ 38 → 10 ^ k ≤ largest
power_small k h = le_trans (pow-le-pow_right {n = 10} (lit≤ tt) h) (lit≤ tt)

sound_whole : (negative : Bool) (n : ℕ) → 0 < n → IsSound (whole_numeral negative n)
sound_whole negative n some =
    cond_both (nat_le n largest) _ _ IsSound
    (λ e. sound_number negative n 1 (record { small_size = leb-true n largest e; positive = lit≤ tt; small_below = lit≤ tt; zero_unsigned = λ z. absurd (omega arith) }))
    (λ _. sound_huge negative)

sound_decimal : (negative : Bool) (n places : ℕ) → 0 < n → IsSound (decimal_numeral negative n places)
sound_decimal negative n places some =
    cond_both (nat_lt (largest * 10 ^ places) n) _ _ IsSound (λ _. sound_huge negative)
    (λ _. cond_both (nat_le n largest && nat_le places 38) _ _ IsSound
    (λ e. sound_number negative n (10 ^ places) (record {
      small_size = leb-true n largest (both_left (nat_le n largest) (nat_le places 38) e);
      positive = one-le-pow places 10 (lit≤ tt);
      small_below = power_small places (leb-true places 38 (both_right (nat_le n largest) (nat_le places 38) e));
      zero_unsigned = λ z. absurd (omega arith);
    }))
    (λ _. sound_fine))

sound_scaled : (negative : Bool) (size up down : ℕ) → IsSound (scaled negative size up down)
sound_scaled negative zero up down = sound_zero
sound_scaled negative (suc n) up down =
    cond_both (nat_le down up) _ _ IsSound
    (λ _. sound_whole negative (suc n * 10 ^ (up - down)) (le_trans (zero-lt-suc n) (le-mul_of_pos_right (suc n) (one-le-pow (up - down) 10 (lit≤ tt)))))
    (λ _. sound_decimal negative (suc n) (down - up) (zero-lt-suc n))

sound_unsigned : (negative : Bool) (body : List ℕ) → IsSound (unsigned_numeral negative body)
sound_unsigned negative body =
    sound_scaled negative (size_of (all_digits body))
    (exponent_up body + zeros_at_end (all_digits body)) (exponent_down body + length (decimals body))

pub sound_numeral : (text : List ℕ) → IsSound (numeral_of text)
unfolding numeral_of
sound_numeral text =
    cond_both (is_unsigned (without_sign text)) _ _ IsSound
    (λ _. sound_unsigned (is_minus text) (without_sign text)) (λ _. sound_no_number)

sound_quotient : (negative : Bool) (size below : ℕ) → size ≤ largest → below ≤ largest → IsSound (quotient_numeral negative size below)
sound_quotient negative zero zero h k = sound_no_number
sound_quotient negative (suc size) zero h k = sound_no_number
sound_quotient negative zero (suc n) h k = sound_zero
sound_quotient negative (suc size) (suc n) h k =
    sound_number negative (suc size) (suc n) (record { small_size = h; positive = zero-lt-suc n; small_below = k; zero_unsigned = λ z. absurd (omega arith) })

sound_written : (negative : Bool) (size below : ℕ) → IsSound (written_quotient negative size below)
sound_written negative size below =
    cond_both (nat_le size largest && nat_le below largest) _ _ IsSound
    (λ e. sound_quotient negative size below
    (leb-true size largest (both_left (nat_le size largest) (nat_le below largest) e))
    (leb-true below largest (both_right (nat_le size largest) (nat_le below largest) e)))
    (λ _. sound_huge negative)

sound_slashed : (negative : Bool) (body : List ℕ) → IsSound (slashed negative body)
sound_slashed negative body =
    cond_both (are_digits (before_first is_slash body) && are_digits (after_first is_slash body)) _ _ IsSound
    (λ _. sound_written negative (digits_value (before_first is_slash body)) (digits_value (after_first is_slash body)))
    (λ _. sound_no_number)

pub sound_fraction : (text : List ℕ) → IsSound (fraction_of text)
unfolding fraction_of
sound_fraction text =
    cond_both (list_any is_slash text) _ _ IsSound
    (λ _. sound_slashed (is_minus text) (without_sign text)) (λ _. sound_numeral text)

-- a value is in the range
magnitude_signed : (negative : Bool) (size : ℕ) → magnitude (signed negative size) ≡ size
magnitude_signed false size = refl
magnitude_signed true zero = refl
magnitude_signed true (suc n) = refl

pub fits_value : (said : Numeral) → IsSound said → (value : ℚ) → value_of said ≡ Some value → fits_range value ≡ true
fits_value (Exact negative size below) s value e =
    let r : IsInRange negative size below = s.told negative size below refl in
    let p : ratio (signed negative size) below ≡ value = cc in
    subst (λ (x : ℚ). fits_range x ≡ true) p
    (fits_in _ (fits-ratio _ below r.positive (subst (λ (x : ℕ). x ≤ largest) (sym (magnitude_signed negative size)) r.small_size) r.small_below))
fits_value NotANumber s value e = absurd (cc)
fits_value (Huge negative) s value e = absurd (cc)
fits_value TooFine s value e = absurd (cc)
