-- Numbers behind signs.
use Rattle.std.proofs.Common.{◌≡◌, ◌↔◌, ℕ, ◌<◌, ◌≤◌, Bool, true, false, cond, List, Option, None, Some, IsTrue, refl, sym, ap, ◌∙◌}
use Rattle.std.specs.Prelude.{unwrap_or}
use Rattle.cip_rational.specs.Rational.{ℚ, zeroℚ, oneℚ, negate}
use Rattle.cip_rational.proofs.Rational.Ring.{negate_negate, negate_zero, one_is_not_zero}
use Rattle.cip_rational.specs.Numeral.{Numeral, value_of, numeral_of}
use Rattle.cip_text_rules.specs.MpsWords.{is_zero, is_too_fine, bound_number}
use Rattle.cip_text_rules.specs.MpsProgram.{number}
use Rattle.cip_text_rules.specs.MpsState.{is_zero_value}
use Rattle.cip_text_rules.proofs.Told.{zero_is_zero, value_zero}
use Rattle.cip_text_rules.specs.LpPlaces.{signed_by, unit, limit_of, fails}
use Rattle.cip_text_rules.specs.LpGrammar.{with_value, number_kind}
use Rattle.cip_lp.specs.LpAmounts.{amount_shown}
use Rattle.cip_lp.specs.declared.numbers.Limit.{Limit as KeptLimit}
use Rattle.cip_lp.specs.LpLimits.{limit_from}
use Rattle.cip_lp.specs.LpNumbers.{IsAmount, IsNoAmount, IsLimit, IsTooFine}
use Rattle.cip_mps_lines.proofs.ValuesRead.{zero_test_is, zero_of_test}

-- ---- 0

pub zero_is : (value : ℚ) (answer : Bool) → IsTrue answer ↔ (value ≡ zeroℚ) → answer ≡ is_zero_value value
zero_is value answer h = zero_test_is value answer (is_zero_value value) refl h

-- a number isn't 0
pub not_zero : (value : ℚ) → ¬ (value ≡ zeroℚ) → is_zero_value value ≡ false
not_zero value other = sym (zero_is value false (λ p. absurd (cc), λ p. absurd (other p)))

negated_zero : (value : ℚ) → negate value ≡ zeroℚ → value ≡ zeroℚ
negated_zero value e = sym (negate_negate value) ∙ ap negate e ∙ negate_zero

-- a number with the other sign is 0 where it is
same_zero : (value : ℚ) (b : Bool) → is_zero_value value ≡ b → is_zero_value (negate value) ≡ b
same_zero value b e = sym (zero_is (negate value) b (to b e, from b e))
  where
    value_is : (b : Bool) → is_zero_value value ≡ b → IsTrue b → value ≡ zeroℚ
    value_is true e p = zero_of_test value e
    value_is false e p = absurd (cc)

    to : (b : Bool) → is_zero_value value ≡ b → IsTrue b → negate value ≡ zeroℚ
    to b e p = ap negate (value_is b e p) ∙ negate_zero

    from : (b : Bool) → is_zero_value value ≡ b → negate value ≡ zeroℚ → IsTrue b
    from true e p = refl
    from false e p =
        let q : is_zero_value value ≡ true = ap is_zero_value (negated_zero value p) ∙ zero_is_zero in absurd (cc)

signed_zero : (minus : Bool) (value : ℚ) → is_zero_value (signed_by minus value) ≡ is_zero_value value
signed_zero false value = refl
signed_zero true value = same_zero value (is_zero_value value) refl

-- ---- factors

one_shown : is_zero_value oneℚ ≡ false
one_shown = not_zero oneℚ one_is_not_zero

pub unit_is : (minus : Bool) → amount_shown (signed_by minus oneℚ) ≡ unit minus
unit_is minus = λ i. record { value = signed_by minus oneℚ; zero = (signed_zero minus oneℚ ∙ one_shown) i }

-- ---- numbers

number_is : (numeral : Numeral) (value : ℚ) → value_of numeral ≡ Some value → number numeral ≡ value
number_is numeral value e = ap (λ (o : Option ℚ). unwrap_or o zeroℚ) e

pub amount_read : (minus : Bool) (text : List ℕ) (value : ℚ) → value_of (numeral_of text) ≡ Some value → IsAmount minus text (amount_shown (signed_by minus value))
amount_read minus text value e =
    let v : value ≡ number (numeral_of text) = sym (number_is (numeral_of text) value e) in
    let z : is_zero_value (signed_by minus value) ≡ is_zero (numeral_of text) = signed_zero minus value ∙ sym (value_zero text value e) in
    record {
      is = λ i. record { value = signed_by minus (v i); zero = z i };
      some = λ w reads. ap (λ (o : Option ℚ). with_value w o (numeral_of text) reads) e;
    }

pub no_amount_read : (text : List ℕ) (numeral : Numeral) (kind : ℕ) → numeral_of text ≡ numeral → value_of numeral ≡ None → kind ≡ number_kind numeral → 0 < kind → kind ≤ 11 → IsNoAmount text kind
no_amount_read text numeral kind n e k some few = record {
  none = λ w reads.
      ap (λ (o : Option ℚ). with_value w o (numeral_of text) reads) (ap value_of n ∙ e) ∙ ap (λ (m : Numeral). fails w (number_kind m)) n
      ∙ ap (fails w) (sym k);
  some = some;
  few = few;
}

-- ---- values of bounds

pub too_fine_read : (text : List ℕ) → is_too_fine (bound_number text) ≡ true → IsTooFine text
too_fine_read text e = λ w reads. ap (λ (b : Bool). cond b (fails w 5) reads) e

abbrev pub kept : Bool → Option ℚ → KeptLimit
kept minus side = record { value = side; minus = minus }

pub limit_read : (minus : Bool) (text : List ℕ) (numeral : Numeral) (read : Option ℚ) (side : Option ℚ) → numeral ≡ bound_number text → is_too_fine numeral ≡ false → read ≡ value_of numeral → limit_from minus side ≡ limit_of minus read → IsLimit minus text (kept minus side)
limit_read minus text numeral read side n e v l = record {
  is = l ∙ ap (limit_of minus) (v ∙ ap value_of n);
  some = λ w reads. ap (λ (b : Bool). cond b (fails w 5) reads) (ap is_too_fine (sym n) ∙ e);
}
