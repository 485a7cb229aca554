-- The parts of a text, put together.
use Rattle.std.proofs.Common.{◌≡◌, ℕ, ◌+◌, Bool, true, false, ◌&&◌, eqb, cond, List, [], ◌∷◌, ◌++◌, length, refl, sym, ap, ◌∙◌}
use Rattle.std.specs.Char.{is_ascii_digit}
use Rattle.std.specs.List.{list_all, list_any, before_first, after_first}
use Rattle.std.proofs.lemmas.List.Folds.{list_all-append}
use Rattle.cip_rational.specs.Numeral.{Numeral, NotANumber, is_minus, without_sign, are_digits, digits_value, is_exponent_mark, is_point, mantissa, exponent, whole_digits, decimals, is_unsigned, zeros_at_end, size_of, scaled, unsigned_numeral}
use Rattle.cip_rational.proofs.InRange.{both_right}
use Rattle.cip_text.proofs.Places.{none_after}

pub mantissa_left : (xs ys : List ℕ) → eqb (length xs) 0 ≡ false → list_all is_ascii_digit xs ≡ true → list_all is_ascii_digit ys ≡ are_digits (xs ++ ys)
mantissa_left [] ys h e = absurd (cc)
mantissa_left (x ∷ xs) ys h e = sym (list_all-append is_ascii_digit (x ∷ xs) ys ∙ ap (λ b. b && list_all is_ascii_digit ys) e)

pub mantissa_none : (xs ys : List ℕ) → eqb (length xs) 0 ≡ false → list_all is_ascii_digit xs ≡ false → false ≡ are_digits (xs ++ ys)
mantissa_none [] ys h e = absurd (cc)
mantissa_none (x ∷ xs) ys h e = sym (list_all-append is_ascii_digit (x ∷ xs) ys ∙ ap (λ b. b && list_all is_ascii_digit ys) e)

pub from_digits : (xs : List ℕ) → are_digits xs ≡ true → list_all is_ascii_digit xs ≡ true
from_digits [] e = refl
from_digits (x ∷ xs) e = e

abbrev makes : List ℕ → List ℕ → Bool → List ℕ → Bool
makes w d h a = are_digits (w ++ d) && cond h (are_digits a) true

abbrev made : Bool → Bool → List ℕ → List ℕ → List ℕ → Numeral
made negative minus w d a =
    scaled negative (size_of (w ++ d)) (cond minus 0 (digits_value a) + zeros_at_end (w ++ d)) (cond minus (digits_value a) 0 + length d)

module _ (negative : Bool) (body m w d ex a : List ℕ) (h : Bool)
    (m_is : m ≡ mantissa body) (ex_is : ex ≡ exponent body) (h_is : h ≡ list_any is_exponent_mark body)
    (w_cut : w ≡ before_first is_point m) (d_cut : d ≡ after_first is_point m) (a_cut : a ≡ without_sign ex) where
  w_is : w ≡ whole_digits body
  w_is = w_cut ∙ ap (before_first is_point) m_is

  d_is : d ≡ decimals body
  d_is = d_cut ∙ ap (after_first is_point) m_is

  a_is : a ≡ without_sign (exponent body)
  a_is = a_cut ∙ ap without_sign ex_is

  sound : makes w d h a ≡ is_unsigned body
  sound =
      ap (λ x. makes x d h a) w_is ∙ ap (λ x. makes (whole_digits body) x h a) d_is
      ∙ ap (λ x. makes (whole_digits body) (decimals body) x a) h_is
      ∙ ap (λ x. makes (whole_digits body) (decimals body) (list_any is_exponent_mark body) x) a_is

  number : made negative (is_minus ex) w d a ≡ unsigned_numeral negative body
  number =
      ap (λ x. made negative x w d a) (ap is_minus ex_is) ∙ ap (λ x. made negative (is_minus (exponent body)) x d a) w_is
      ∙ ap (λ x. made negative (is_minus (exponent body)) (whole_digits body) x a) d_is
      ∙ ap (λ x. made negative (is_minus (exponent body)) (whole_digits body) (decimals body) x) a_is

  pub not_number : makes w d h a ≡ false → NotANumber ≡ cond (is_unsigned body) (unsigned_numeral negative body) NotANumber
  not_number e = sym (ap (λ b. cond b (unsigned_numeral negative body) NotANumber) (sym sound ∙ e))

  pub is_number : (r : Numeral) (minus : Bool) → makes w d h a ≡ true → minus ≡ is_minus ex → r ≡ made negative minus w d a → r ≡ cond (is_unsigned body) (unsigned_numeral negative body) NotANumber
  is_number r minus e s q =
      q ∙ ap (λ x. made negative x w d a) s ∙ number ∙ sym (ap (λ b. cond b (unsigned_numeral negative body) NotANumber) (sym sound ∙ e))

  pub exponent_digits : makes w d h a ≡ true → list_all is_ascii_digit a ≡ true
  exponent_digits e = go h refl
    where
      go : (b : Bool) → h ≡ b → list_all is_ascii_digit a ≡ true
      go true t = from_digits a (sym (ap (λ x. cond x (are_digits a) true) t) ∙ both_right (are_digits (w ++ d)) (cond h (are_digits a) true) e)
      go false t =
          let none : exponent body ≡ [] = none_after is_exponent_mark body (sym h_is ∙ t) in
          ap (list_all is_ascii_digit) (a_is ∙ ap without_sign none)
