-- The text of a fraction, put together in a buffer.
use Rattle.std.proofs.Common.{◌≡◌, ℕ, zero, suc, ◌+◌, ◌-◌, ◌<◌, ◌≤◌, ◌^◌, List, [], ◌∷◌, ◌++◌, take, drop, ℤ, sym, ap, ◌∙◌, refl, arith, append_assoc}
use Rattle.std.specs.Fmt.{decimal, signed_decimal}
use Rattle.std.proofs.lemmas.List.{drop-drop, append-nil}
use Rattle.cip_rational.specs.Rational.{ℚ, numerator, denominator}
use Rattle.cip_rational.specs.NumberText.{integer_text, denominator_text, fraction_text}
use Rattle.cip_rational.proofs.NumberText.{natural_text_decimal, integer_text_decimal}
use Rattle.cip_frac.specs.LowestTerms.{AreLowest}
use Rattle.cip_frac.proofs.Casts.{kept}
use Rattle.cip_frac.proofs.SumSteps.{read}

-- what is the same from a place on is the same from a later place on
pub same_after : (xs ys : List ℕ) (m n : ℕ) → m ≤ n → drop m xs ≡ drop m ys → drop n xs ≡ drop n ys
same_after xs ys m n h e =
    let p : m + (n - m) ≡ n = omega arith in
    ap (λ k. drop k xs) (sym p) ∙ sym (drop-drop (n - m) m xs) ∙ ap (drop (n - m)) e ∙ drop-drop (n - m) m ys ∙ ap (λ k. drop k ys) p

nothing : (xs ys : List ℕ) → take 0 xs ++ ys ≡ ys
nothing [] ys = refl
nothing (x ∷ xs) ys = refl

large_denominator : (d : ℕ) → 2 ≤ d → d < 10 ^ 64 → denominator_text d ≡ 47 ∷ decimal d
large_denominator zero h k = absurd (omega arith)
large_denominator (suc zero) h k = absurd (omega arith)
large_denominator (suc (suc d)) h k = ap (λ l. 47 ∷ l) (natural_text_decimal (suc (suc d)) k)

module _ (x : ℚ) (n : ℤ) (d : ℕ) (en : n ≡ numerator x) (ed : d ≡ denominator x) (h : AreLowest n d) where
  signed_is : signed_decimal (read n) ≡ integer_text (numerator x)
  signed_is =
      let k : n ≡ numerator x = en in
      ap signed_decimal (kept n h.over_small) ∙ sym (integer_text_decimal n (omega (arith, h.over_small))) ∙ ap integer_text en

  pub shown_whole : d ≡ 1 → signed_decimal (read n) ≡ fraction_text x
  unfolding fraction_text
  shown_whole one =
      let t : denominator_text (denominator x) ≡ [] = ap denominator_text (sym ed ∙ one) in
      signed_is ∙ rw t (sym (append-nil (integer_text (numerator x))))

  pub shown_quotient : (d ≡ 1 → ⊥) → signed_decimal (read n) ++ 47 ∷ decimal d ≡ fraction_text x
  unfolding fraction_text
  shown_quotient other =
      let t : denominator_text (denominator x) ≡ 47 ∷ decimal d = ap denominator_text (sym ed) ∙ large_denominator d (omega (arith, h.positive, other)) (omega (arith, h.under_small)) in
      rw t (ap (λ l. l ++ 47 ∷ decimal d) signed_is)

  pub whole_text : d ≡ 1 → (buffer first : List ℕ) → first ≡ signed_decimal (read n) → take 0 buffer ++ first ≡ fraction_text x
  whole_text one buffer first e = nothing buffer first ∙ e ∙ shown_whole one

  pub quotient_text : (d ≡ 1 → ⊥) → (buffer first second : List ℕ) → first ≡ signed_decimal (read n) → second ≡ decimal d → ((take 0 buffer ++ first) ++ 47 ∷ []) ++ second ≡ fraction_text x
  quotient_text other buffer first second e f =
      let first_is : take 0 buffer ++ first ≡ signed_decimal (read n) = nothing buffer first ∙ e in
      rw (first_is, f) (append_assoc (signed_decimal (read n)) (47 ∷ []) (decimal d) ∙ shown_quotient other)
