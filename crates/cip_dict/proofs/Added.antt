-- Products that are added to values.
use borrow.Author.Differences.{same_in, product_is}
use Rattle.std.proofs.Common.{to_z, of_z, FitsSigned, subst, ◌-◌, ◌≡◌, ℕ, ◌*◌, ◌<◌, ◌^◌, ℤ, pos, ◌+ℤ◌, ◌*ℤ◌, Bool, true, false, cond, not, ◌&&◌, ◌||◌, [], None, Some, MatchBool, refl, sym, ap, ap₂, ◌∙◌, arith}
use Rattle.std.specs.Int.{w64, w128}
use Rattle.std.proofs.lemmas.Int.{ints, unsigned_abs-mul, fits_signed_from_abs, to_z-of_z}
use Rattle.std.proofs.lemmas.Nat.{mul-le}
use Rattle.std.proofs.Math.Nat.{mul-pos}
use Rattle.cip_rational.specs.Rational.{ℚ, ◌+ℚ◌, ◌*ℚ◌, ratio, numerator, denominator, is_ratio, is_zero}
use Rattle.cip_rational.specs.Range.{magnitude}
use Rattle.cip_rational.proofs.Rational.Ratio.{ratio-add, ratio-mul}
use Rattle.cip_rational.proofs.Rational.Lowest.{denominator-pos}
use Rattle.cip_bland.specs.declared.places.Line.TheVariants.{Cost}
use Rattle.cip_bland.specs.declared.places.EntryPlace.{EntryPlace}
use Rattle.cip_bland.specs.Exchange.{moved_at}
use Rattle.cip_bland.specs.Operations.{first_overflow, sum_at}
use Rattle.cip_bland.specs.MoveOperations.{moved_operations_at}
use Rattle.cip_frac.proofs.InRange.{size_of_sum}
use Rattle.cip_dict.specs.Values.{IsAdded}
use Rattle.cip_dict.specs.WholeLines.{HasTermsBelow}
use Rattle.cip_dict.proofs.Formed.{sum_zero_left, sum_zero_right}
use Rattle.cip_dict.proofs.WholeLines.{whole_lines_tell}
use Rattle.cip_dict.proofs.WholePuts.{sum_none}
use Rattle.cip_dict.proofs.WideProducts.{read_wide}

-- where a factor is 0 the value stays

some_place : EntryPlace
some_place = record { line = Cost; variable = None }

pub zero_left : (c a b : ℚ) → is_zero a ≡ true → IsAdded true c a b c
zero_left c a b e = ((λ place. (sum_zero_left place c a b e).0), (sum_zero_left some_place c a b e).1)

pub zero_right : (c a b : ℚ) → is_zero b ≡ true → IsAdded true c a b c
zero_right c a b e = ((λ place. (sum_zero_right place c a b e).0), (sum_zero_right some_place c a b e).1)

-- where no operation overflows, none does

-- short numbers are small

small_of : (q : ℚ) → HasTermsBelow (2 ^ 20) q → HasTermsBelow (2 ^ 42) q
small_of q h = record { top = omega (arith, h.top); bottom = omega (arith, h.bottom) }

commuted : (a b : ℤ) → a *ℤ b ≡ b *ℤ a
commuted a b =
    let s = product_is a b in
    let t = product_is b a in
    same_in _ _ (omega (arith, s.0, s.1, t.0, t.1))

-- the sum over the product of the denominators
sum_is : (q t : ℚ) (n : ℤ) (below : ℕ) → 0 < below → q +ℚ ratio n below *ℚ t ≡ ratio (pos (below * denominator t) *ℤ numerator q +ℤ n *ℤ numerator t *ℤ pos (denominator q)) (denominator q * (below * denominator t))
sum_is q t n below h =
    ap₂ (λ (x y : ℚ). x +ℚ ratio n below *ℚ y) (sym (is_ratio q)) (sym (is_ratio t))
    ∙ ap (λ x. ratio (numerator q) (denominator q) +ℚ x) (ratio-mul n (numerator t) below (denominator t) h (denominator-pos t))
    ∙ ratio-add (numerator q) (n *ℤ numerator t) (denominator q) (below * denominator t) (denominator-pos q) (mul-pos h (denominator-pos t))
    ∙ ap (λ x. ratio (x +ℤ n *ℤ numerator t *ℤ pos (denominator q)) (denominator q * (below * denominator t))) (commuted (numerator q) (pos (below * denominator t)))

pub short_added : (q t : ℚ) (n : ℤ) (below : ℕ) (new : ℚ) (z : ℤ) (u : ℕ) → 0 < below → magnitude n < 2 ^ 20 → below < 2 ^ 20 → HasTermsBelow (2 ^ 20) q → HasTermsBelow (2 ^ 20) t → z ≡ pos (below * denominator t) *ℤ numerator q +ℤ n *ℤ numerator t *ℤ pos (denominator q) → u ≡ denominator q * (below * denominator t) → new ≡ ratio z u → IsAdded true q (ratio n below) t new
short_added q t n below new z u h hn hb hq ht ez eu e =
    let entry : HasTermsBelow (2 ^ 42) (ratio n below) = whole_lines_tell.small n below h (omega (arith, hn)) (omega (arith, hb)) in
    let p = whole_lines_tell.products (ratio n below) t entry (small_of t ht) in
    let s = whole_lines_tell.sums q (ratio n below) t (small_of q hq) entry (small_of t ht) in
    ((λ place. sum_none place q (ratio n below) t p s), e ∙ ap₂ (λ x y. ratio x y) ez eu ∙ sym (sum_is q t n below h))

pub common_some : (q t : ℚ) (below u : ℕ) → 0 < below → u ≡ denominator q * (below * denominator t) → 0 < u
common_some q t below u h e = rw e (mul-pos (denominator-pos q) (mul-pos h (denominator-pos t)))

-- sizes of products

pub short_size : (a c : ℤ) → magnitude a < 2 ^ 20 → magnitude c < 2 ^ 20 → magnitude (a *ℤ c) < 2 ^ 40
short_size a c p q = let l = mul-le (magnitude a) (magnitude c) (2 ^ 20 - 1) (2 ^ 20 - 1) (omega (arith, p)) (omega (arith, q)) in omega (arith, l, unsigned_abs-mul a c)

pub long_size : (a c : ℤ) → magnitude a < 2 ^ 40 → magnitude c < 2 ^ 20 → magnitude (a *ℤ c) < 2 ^ 60
long_size a c p q = let l = mul-le (magnitude a) (magnitude c) (2 ^ 40 - 1) (2 ^ 20 - 1) (omega (arith, p)) (omega (arith, q)) in omega (arith, l, unsigned_abs-mul a c)

pub read_word : (z : ℤ) → magnitude z < 2 ^ 63 → to_z w64 (of_z w64 z) ≡ z
read_word z h = omega (arith, ints, h)

pub short_read : (z : ℤ) → magnitude z < 2 ^ 20 → magnitude (to_z w64 (of_z w64 z)) < 2 ^ 20
short_read z h = rw (read_word z (omega (arith, h))) h

pub short_word : (z : ℤ) (u : ℕ) → FitsSigned w64 z → u ≡ magnitude (to_z w64 (of_z w64 z)) → u < 2 ^ 20 → magnitude z < 2 ^ 20
short_word z u f e l = subst (λ (x : ℤ). magnitude x < 2 ^ 20) (to_z-of_z w64 z f) (subst (λ (n : ℕ). n < 2 ^ 20) e l)

-- sums of two products
pub sum_size : (a b : ℤ) → magnitude a < 2 ^ 60 → magnitude b < 2 ^ 60 → magnitude (a +ℤ b) < 2 ^ 61
sum_size a b p q = let l = size_of_sum a b in omega (arith, l, p, q)

pub sum_read : (a b : ℤ) → magnitude a < 2 ^ 60 → magnitude b < 2 ^ 60 → to_z w64 (of_z w64 (a +ℤ b)) ≡ a +ℤ b
sum_read a b p q = let l = sum_size a b p q in read_word (a +ℤ b) (omega (arith, l))

pub sum_fits_word : (a b : ℤ) → magnitude a < 2 ^ 60 → magnitude b < 2 ^ 60 → FitsSigned w64 (a +ℤ b)
sum_fits_word a b p q = let l = sum_size a b p q in fits_signed_from_abs w64 (a +ℤ b) (omega (arith, l))

pub widened_sum : (z : ℤ) → magnitude z < 2 ^ 61 → to_z w128 (of_z w128 (to_z w64 (of_z w64 z))) ≡ z
widened_sum z h = ap (λ x. to_z w128 (of_z w128 x)) (read_word z (omega (arith, h))) ∙ read_wide z (omega (arith, h))

pub widened_fits : (z : ℤ) → magnitude z < 2 ^ 61 → FitsSigned w128 (to_z w64 (of_z w64 z))
widened_fits z h = rw (read_word z (omega (arith, h))) (fits_signed_from_abs w128 z (omega (arith, h)))

-- the row of a basic variable other than the one that leaves has no entry where it doesn't change
pub unreached : (basic leaves none changes : Bool) → basic ≡ true → leaves ≡ false → changes ≡ (basic && (not leaves && not none)) → changes ≡ false → none ≡ true
unreached true false true changes b l m f = refl
unreached true false false changes b l m f = absurd (cc)
unreached true true none changes b l m f = absurd (cc)
unreached false leaves none changes b l m f = absurd (cc)

-- the value of a basic variable after its product was added
added_moves : (r : Bool) (place : EntryPlace) (v a t new : ℚ) → IsAdded r v a t new → MatchBool r ((first_overflow (sum_at place v a t) ≡ None) × (new ≡ v +ℚ a *ℚ t)) (first_overflow (sum_at place v a t) ≡ Some place)
added_moves true place v a t new h = (h.0 place, h.1)
added_moves false place v a t new h = h place

module _ (r basic here : Bool) (place : EntryPlace) (v w a a' t new : ℚ) (b : basic ≡ true) (o : here ≡ false) (same : w ≡ v) (entry : a' ≡ a) (h : IsAdded r w a' t new) where
  pub added_flip : MatchBool r ((first_overflow (cond basic (sum_at place v a t) []) ≡ None) × (cond (basic || here) new v ≡ moved_at here basic t v a)) (first_overflow (cond basic (sum_at place v a t) []) ≡ Some place)
  added_flip = rw (b, o, sym same, sym entry) (added_moves r place w a' t new h)

  pub added_move : MatchBool r ((first_overflow (moved_operations_at place here basic t v a) ≡ None) × (cond (basic || here) new v ≡ moved_at here basic t v a)) (first_overflow (moved_operations_at place here basic t v a) ≡ Some place)
  added_move = rw (b, o, sym same, sym entry) (added_moves r place w a' t new h)
