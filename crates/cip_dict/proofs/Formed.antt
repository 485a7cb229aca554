-- What a product and a sum come to, by which of their operations overflows.
use Rattle.std.proofs.Common.{◌≡◌, true, false, None, Some, refl, sym, ap, ◌∙◌, Bool, ◌↔◌, IsTrue}
use Rattle.std.proofs.lemmas.Bool.{or_right, true≢false}
use Rattle.cip_rational.specs.Rational.{ℚ, ◌+ℚ◌, ◌*ℚ◌, zeroℚ, is_zero}
use Rattle.cip_rational.specs.Range.{sum_overflows, product_overflows}
use Rattle.cip_rational.proofs.Rational.Ring.{+ℚ-zero, *ℚ-zero, zero-*ℚ}
use Rattle.cip_bland.specs.Operations.{first_overflow, product_at, sum_at}
use Rattle.cip_bland.specs.declared.places.EntryPlace.{EntryPlace}
use Rattle.cip_bland.proofs.Zeros.{is_zero_of, is_zero_false}
use Rattle.cip_problem.proofs.Rows.{zero_of_test}

-- a test that says when a number is 0 is the test of 0
pub same_test : (q : ℚ) (b : Bool) → (IsTrue b ↔ (q ≡ zeroℚ)) → b ≡ is_zero q
same_test q true h = sym (is_zero_of q (h.0 refl))
same_test q false h = sym (is_zero_false q (λ e. true≢false (sym (h.1 e))))

-- ---- products

pub product_zero_left : (place : EntryPlace) (a b : ℚ) → is_zero a ≡ true → (first_overflow (product_at place a b) ≡ None) × (zeroℚ ≡ a *ℚ b)
product_zero_left place a b e = (rw e refl, sym (ap (λ q. q *ℚ b) (zero_of_test _ e) ∙ zero-*ℚ b))

pub product_zero_right : (place : EntryPlace) (a b : ℚ) → is_zero b ≡ true → (first_overflow (product_at place a b) ≡ None) × (zeroℚ ≡ a *ℚ b)
product_zero_right place a b e = (rw (or_right (is_zero a) (is_zero b) e) refl, sym (ap (λ q. a *ℚ q) (zero_of_test _ e) ∙ *ℚ-zero a))

pub product_fits : (place : EntryPlace) (a b : ℚ) → is_zero a ≡ false → is_zero b ≡ false → product_overflows a b ≡ false → first_overflow (product_at place a b) ≡ None
product_fits place a b p q o = rw (p, q, o) refl

pub product_wide : (place : EntryPlace) (a b : ℚ) → is_zero a ≡ false → is_zero b ≡ false → product_overflows a b ≡ true → first_overflow (product_at place a b) ≡ Some place
product_wide place a b p q o = rw (p, q, o) refl

-- ---- sums

pub sum_zero_left : (place : EntryPlace) (c a b : ℚ) → is_zero a ≡ true → (first_overflow (sum_at place c a b) ≡ None) × (c ≡ c +ℚ a *ℚ b)
sum_zero_left place c a b e = (rw e refl, sym (ap (λ q. c +ℚ q) (ap (λ q. q *ℚ b) (zero_of_test _ e) ∙ zero-*ℚ b) ∙ +ℚ-zero c))

pub sum_zero_right : (place : EntryPlace) (c a b : ℚ) → is_zero b ≡ true → (first_overflow (sum_at place c a b) ≡ None) × (c ≡ c +ℚ a *ℚ b)
sum_zero_right place c a b e = (rw (or_right (is_zero a) (is_zero b) e) refl, sym (ap (λ q. c +ℚ q) (ap (λ q. a *ℚ q) (zero_of_test _ e) ∙ *ℚ-zero a) ∙ +ℚ-zero c))

pub sum_fits : (place : EntryPlace) (c a b : ℚ) → is_zero a ≡ false → is_zero b ≡ false → product_overflows a b ≡ false → sum_overflows c (a *ℚ b) ≡ false → first_overflow (sum_at place c a b) ≡ None
sum_fits place c a b p q o s = rw (p, q, o, s) refl

pub sum_wide_product : (place : EntryPlace) (c a b : ℚ) → is_zero a ≡ false → is_zero b ≡ false → product_overflows a b ≡ true → first_overflow (sum_at place c a b) ≡ Some place
sum_wide_product place c a b p q o = rw (p, q, o) refl

pub sum_wide : (place : EntryPlace) (c a b : ℚ) → is_zero a ≡ false → is_zero b ≡ false → product_overflows a b ≡ false → sum_overflows c (a *ℚ b) ≡ true → first_overflow (sum_at place c a b) ≡ Some place
sum_wide place c a b p q o s = rw (p, q, o, s) refl

pub ruleset entry_laws = (product_zero_left, product_zero_right, product_fits, product_wide, sum_zero_left, sum_zero_right, sum_fits, sum_wide_product, sum_wide)
