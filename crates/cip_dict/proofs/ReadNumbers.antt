-- Whole numbers as the code reads them, and which of three is meant.
use Rattle.std.proofs.Common.{◌≡◌, ℕ, ◌==◌, ◌<◌, ◌^◌, Bool, true, false, cond, ℤ, pos, ◌+ℤ◌, ◌*ℤ◌, to_z, of_z, sym, ap, ap₂, ◌∙◌, arith}
use Rattle.std.specs.Int.{w64, w128}
use Rattle.std.proofs.lemmas.Bool.{eq-eqb, ne_eqb}
use Rattle.std.proofs.lemmas.Int.{ints}
use Rattle.cip_rational.specs.Range.{magnitude}
use Rattle.cip_frac.proofs.InRange.{size_of_sum}
use Rattle.cip_dict.proofs.WholeParts.{read_small}
use Rattle.cip_dict.proofs.WideProducts.{read_wide}

-- in 64 and in 128 bits
abbrev word : ℤ → ℤ
word z = to_z w64 (of_z w64 z)

abbrev wide : ℤ → ℤ
wide z = to_z w128 (of_z w128 z)

natural_word : (d : ℕ) → d < 2 ^ 42 → to_z w64 d ≡ pos d
natural_word d h = omega (arith, ints)

pub natural_below : (d : ℕ) → d < 2 ^ 42 → magnitude (to_z w64 d) < 2 ^ 42
natural_below d h = rw (natural_word d h) h

pub word_below : (z : ℤ) → magnitude z < 2 ^ 42 → magnitude (word z) < 2 ^ 42
word_below z h = rw (read_small z h) h

pub wide_kept : (z : ℤ) → magnitude z < 2 ^ 86 → wide z ≡ z
wide_kept z h = read_wide z (omega (arith, h))

pub product_below : (z : ℤ) → magnitude z < 2 ^ 84 → magnitude (wide z) < 2 ^ 84
product_below z h = rw (wide_kept z (omega (arith, h))) h

pub product_small : (z : ℤ) → magnitude z < 2 ^ 84 → magnitude (wide z) < 2 ^ 86
product_small z h = let s = product_below z h in omega (arith, s)

pub sum_small : (z : ℤ) → magnitude z < 2 ^ 86 → magnitude (wide z) < 2 ^ 86
sum_small z h = rw (wide_kept z h) h

pub two_products : (p q : ℤ) → magnitude p < 2 ^ 84 → magnitude q < 2 ^ 84 → magnitude (wide p +ℤ wide q) < 2 ^ 86
two_products p q hp hq =
    let l = size_of_sum (wide p) (wide q) in
    let sp = product_below p hp in
    let sq = product_below q hq in
    omega (arith, l, sp, sq)

pub product_read : (a c p : ℤ) → magnitude a < 2 ^ 42 → magnitude c < 2 ^ 42 → p ≡ word a *ℤ word c → magnitude p < 2 ^ 84 → wide p ≡ a *ℤ c
product_read a c p sa sc e s = wide_kept p (omega (arith, s)) ∙ e ∙ ap₂ (λ x y. x *ℤ y) (read_small a sa) (read_small c sc)

pub multiple_read : (a : ℤ) (d : ℕ) (p : ℤ) → magnitude a < 2 ^ 42 → d < 2 ^ 42 → p ≡ word a *ℤ to_z w64 d → magnitude p < 2 ^ 84 → wide p ≡ a *ℤ pos d
multiple_read a d p sa sd e s = wide_kept p (omega (arith, s)) ∙ e ∙ ap₂ (λ x y. x *ℤ y) (read_small a sa) (natural_word d sd)

pub sum_read : (p q x y z : ℤ) → z ≡ wide p +ℤ wide q → magnitude z < 2 ^ 86 → wide p ≡ x → wide q ≡ y → wide z ≡ x +ℤ y
sum_read p q x y z e s ep eq = wide_kept z s ∙ e ∙ ap₂ (λ x y. x +ℤ y) ep eq

module _ (k l : ℕ) (absent : Bool) (v a b c : ℤ) where
  pub chosen_first : k ≡ l → v ≡ a → v ≡ cond (k == l) a (cond absent b c)
  chosen_first e h = h ∙ sym (ap (λ t. cond t a (cond absent b c)) (eq-eqb k l e))

  chosen : (r t : Bool) → ¬ (k ≡ l) → r ≡ absent → r ≡ t → v ≡ cond t b c → v ≡ cond (k == l) a (cond absent b c)
  chosen r t n e is h = h ∙ sym (ap (λ t. cond t a (cond absent b c)) (ne_eqb k l n) ∙ ap (λ t. cond t b c) (sym e ∙ is))

  pub chosen_second : (r : Bool) → ¬ (k ≡ l) → r ≡ absent → r ≡ true → v ≡ b → v ≡ cond (k == l) a (cond absent b c)
  chosen_second r n e is h = chosen r true n e is h

  pub chosen_third : (r : Bool) → ¬ (k ≡ l) → r ≡ absent → r ≡ false → v ≡ c → v ≡ cond (k == l) a (cond absent b c)
  chosen_third r n e is h = chosen r false n e is h
