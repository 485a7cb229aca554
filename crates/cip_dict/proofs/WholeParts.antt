-- Lists of whole numbers over one denominator, as lists of kept entries.
use borrow.Author.Differences.{product_is, lt_T, lt_in}
use Rattle.std.proofs.Common.{◌≡◌, ◌≢◌, not, int_lt, ℕ, zero, suc, ◌*◌, ◌<◌, ◌≤◌, ◌==◌, ◌^◌, ℤ, pos, ◌*ℤ◌, cond, Bool, true, false, to_z, of_z, List, [], ◌∷◌, ◌++◌, length, get_or, refl, sym, ap, ◌∙◌, arith, lit<}
use Rattle.std.specs.Int.{w64}
use Rattle.std.proofs.lemmas.Bool.{eq-eqb, ne_eqb, true≢false}
use Rattle.std.proofs.lemmas.Int.{ints}
use Rattle.cip_rational.specs.Rational as rational
use Rattle.cip_rational.specs.Rational.{ℚ, ◌*ℚ◌, zeroℚ, lt_test, inverse, integer, ratio, is_zero}
use Rattle.cip_rational.specs.Range.{magnitude, fits_range}
use Rattle.cip_rational.proofs.Range.InRange.{fits_in, fits-ratio}
use Rattle.cip_frac.specs.FractionFault.{quotient_of, IsFaultOf}
use Rattle.cip_frac.specs.declared.fraction.FracFault.{FracFault}
use Rattle.cip_frac.specs.declared.fraction.FracFault.TheVariants.{ZeroBelow, Wide}
use Rattle.cip_rational.proofs.Rational.Ratio.{same_truth, same_ratio, ratio-mul, ratio-lt_test, integer_ratio}
use Rattle.cip_rational.proofs.Rational.Inverse.{ratio_zero}
use Rattle.cip_bland.proofs.Zeros.{is_zero_of, is_zero_false}
use Rattle.cip_dict.specs.SparseLines.{Kept, entry_on, AreKept, AreRising, IsPlace}
use Rattle.cip_dict.proofs.WholeLines.{whole_lines_tell}
use Rattle.cip_dict.proofs.Places.{entry_miss, all_below}
use Rattle.cip_dict.specs.WholeLines.{Whole, over, number_on, AreBelow}

-- ---- 0

zero_one : zeroℚ ≡ ratio (pos 0) 1
unfolding zeroℚ ratio rational.whole
zero_one = refl

pub none_ratio : (n : ℤ) (d : ℕ) → 0 < d → ratio n d ≡ zeroℚ → n ≡ pos 0
none_ratio n d h e =
    let s : n *ℤ pos 1 ≡ pos 0 *ℤ pos d = same_ratio n (pos 0) d 1 h (lit< tt) (e ∙ zero_one) in
    omega (arith, ints, s)

-- a ratio is 0, or above 0, where its number is

zero_is : (n : ℤ) (d : ℕ) (b : Bool) → 0 < d → (b ≡ true → n ≡ pos 0) → (b ≡ false → n ≢ pos 0) → b ≡ is_zero (ratio n d)
zero_is n d true h none some = sym (is_zero_of (ratio n d) (ap (λ m. ratio m d) (none refl) ∙ ratio_zero d h))
zero_is n d false h none some = sym (is_zero_false (ratio n d) (λ e. some refl (none_ratio n d h e)))

pub other_ratio : (n : ℤ) (d : ℕ) (b : Bool) → 0 < d → (b ≡ true → n ≡ pos 0) → (b ≡ false → n ≢ pos 0) → not b ≡ not (is_zero (ratio n d))
other_ratio n d b h none some = ap not (zero_is n d b h none some)

pub above_ratio : (n : ℤ) (d : ℕ) → 0 < d → int_lt (pos 0) n ≡ lt_test zeroℚ (ratio n d)
above_ratio n d h =
    let x = product_is (pos 0) (pos d) in
    let y = product_is n (pos 1) in
    rw zero_one (
    same_truth _ _
    (λ t. lt_in (pos 0 *ℤ pos d) (n *ℤ pos 1) (omega (arith, x, y, lt_T (pos 0) n t, h)))
    (λ t. lt_in (pos 0) n (omega (arith, x, y, lt_T (pos 0 *ℤ pos d) (n *ℤ pos 1) t)))
    ∙ sym (ratio-lt_test n (pos 0) d 1 h (lit< tt)))

-- ---- entries

pub length_over : (d : ℕ) (es : List Whole) → length (over d es) ≡ length es
length_over d [] = refl
length_over d (e ∷ es) = ap suc (length_over d es)

pub at_over : (d : ℕ) (es : List Whole) (p : ℕ) (a : Kept) (b : Whole) → p < length es → get_or (over d es) p a ≡ ((get_or es p b).0, ratio (get_or es p b).1 d)
at_over d [] p a b l = absurd (omega (arith, l))
at_over d (e ∷ es) zero a b l = refl
at_over d (e ∷ es) (suc p) a b l = at_over d es p a b (omega (arith, l))

chosen_over : (t : Bool) (n m : ℤ) (d : ℕ) → cond t (ratio n d) (ratio m d) ≡ ratio (cond t n m) d
chosen_over true n m d = refl
chosen_over false n m d = refl

pub entry_over : (d : ℕ) (es : List Whole) (k : ℕ) → 0 < d → entry_on (over d es) k ≡ ratio (number_on es k) d
entry_over d [] k h = sym (ratio_zero d h)
entry_over d (e ∷ es) k h = ap (λ q. cond (e.0 == k) (ratio e.1 d) q) (entry_over d es k h) ∙ chosen_over (e.0 == k) e.1 (number_on es k) d

pub over_append : (d : ℕ) (es fs : List Whole) → over d (es ++ fs) ≡ over d es ++ over d fs
over_append d [] fs = refl
over_append d (e ∷ es) fs = ap (λ xs. (e.0, ratio e.1 d) ∷ xs) (over_append d es fs)

-- they are kept over any denominator
pub kept_over : (c d l n : ℕ) (es : List Whole) → 0 < c → 0 < d → AreKept l n (over c es) → AreKept l n (over d es)
kept_over c d l n [] hc hd h = tt
kept_over c d l n (e ∷ es) hc hd h =
    (h.0, h.1, (λ z. h.2 (ap (λ m. ratio m c) (none_ratio e.1 d hd z) ∙ ratio_zero c hc)), kept_over c d (suc e.0) n es hc hd h.3)

pub rising_over : (d least n : ℕ) (es : List Whole) → AreKept least n (over d es) → AreRising least es
rising_over d least n [] h = tt
rising_over d least n (e ∷ es) h = (h.0, rising_over d (suc e.0) n es h.3)

pub over_place : (d k : ℕ) (es : List Whole) (p : ℕ) → IsPlace k es p → IsPlace k (over d es) p
over_place d k [] zero h = tt
over_place d k [] (suc p) h = absurd h
over_place d k (e ∷ es) zero h = h
over_place d k (e ∷ es) (suc p) h = (h.0, over_place d k es p h.1)

pub none_over : (d : ℕ) (es : List Whole) (k : ℕ) → 0 < d → entry_on (over d es) k ≡ zeroℚ → number_on es k ≡ pos 0
none_over d es k h e = none_ratio (number_on es k) d h (sym (entry_over d es k h) ∙ e)

pub number_small : (es : List Whole) (k : ℕ) → AreBelow (2 ^ 42) es → magnitude (number_on es k) < 2 ^ 42
number_small [] k h = lit< tt
number_small (e ∷ es) k h = either (e.0 == k) e.1 (number_on es k) h.0 (number_small es k h.1)
  where
    either : (t : Bool) (a b : ℤ) → magnitude a < 2 ^ 42 → magnitude b < 2 ^ 42 → magnitude (cond t a b) < 2 ^ 42
    either true a b p q = p
    either false a b p q = q

-- ---- places

pub yes_over : (es : List Whole) (p k : ℕ) → p < length es → ((b : Whole) → (get_or es p b).0 ≡ k) → (a : Kept) → (get_or (over 1 es) p a).0 ≡ k
yes_over es p k l h a = ap (λ (e : Kept). e.0) (at_over 1 es p a (0, pos 0) l) ∙ h (0, pos 0)

pub no_over : (es : List Whole) (p k : ℕ) → ((b : Whole) → p < length es → ¬ ((get_or es p b).0 ≡ k)) → (a : Kept) → p < length (over 1 es) → ¬ ((get_or (over 1 es) p a).0 ≡ k)
no_over es p k h a l s =
    let w : p < length es = omega (arith, l, length_over 1 es) in
    h (0, pos 0) w (sym (ap (λ (e : Kept). e.0) (at_over 1 es p a (0, pos 0) w)) ∙ s)

pub first_over : (es : List Whole) (p v : ℕ) → ((b : Whole) → p < length es → v ≡ (get_or es p b).0) → (a : Kept) → p < length (over 1 es) → v ≡ (get_or (over 1 es) p a).0
first_over es p v h a l =
    let w : p < length es = omega (arith, l, length_over 1 es) in
    h (0, pos 0) w ∙ sym (ap (λ (e : Kept). e.0) (at_over 1 es p a (0, pos 0) w))

pub last_over : (es : List Whole) (p v n : ℕ) → (length es ≤ p → v ≡ n) → length (over 1 es) ≤ p → v ≡ n
last_over es p v n h l = h (omega (arith, l, length_over 1 es))

pub number_hit : (k : ℕ) (es : List Whole) (p : ℕ) (b : Whole) → IsPlace k (over 1 es) p → p < length es → (get_or es p b).0 ≡ k → number_on es k ≡ (get_or es p b).1
number_hit k [] p b i l s = absurd (omega (arith, l))
number_hit k (e ∷ es) zero b i l s = ap (λ t. cond t e.1 (number_on es k)) (eq-eqb e.0 k s)
number_hit k (e ∷ es) (suc p) b i l s = ap (λ t. cond t e.1 (number_on es k)) (ne_eqb e.0 k (λ (s : e.0 ≡ k). absurd (omega (arith, s, i.0)))) ∙ number_hit k es p b i.1 (omega (arith, l)) s

pub number_miss : (k : ℕ) (es : List Whole) (p n : ℕ) → AreKept 0 n (over 1 es) → IsPlace k (over 1 es) p → ((b : Whole) → p < length es → ¬ ((get_or es p b).0 ≡ k)) → number_on es k ≡ pos 0
number_miss k es p n h i f = none_over 1 es k (lit< tt) (entry_miss k (over 1 es) p 0 n h i (no_over es p k f))

pub below_over : (es : List Whole) (p n : ℕ) (b : Whole) → AreKept 0 n (over 1 es) → p < length es → (get_or es p b).0 < n
below_over es p n b h l =
    let w : p < length (over 1 es) = omega (arith, l, length_over 1 es) in
    let r : (get_or (over 1 es) p (0, zeroℚ)).0 < n = all_below (over 1 es) 0 n p (0, zeroℚ) h w in
    let s : (get_or (over 1 es) p (0, zeroℚ)).0 ≡ (get_or es p b).0 = ap (λ (e : Kept). e.0) (at_over 1 es p (0, zeroℚ) b l) in
    omega (arith, r, s)

-- ---- numbers as the code reads them

pub read_small : (z : ℤ) → magnitude z < 2 ^ 42 → to_z w64 (of_z w64 z) ≡ z
read_small z h = omega (arith, ints, h)

pub item_below : (bound : ℕ) (es : List Whole) (p : ℕ) (b : Whole) → AreBelow bound es → p < length es → magnitude (get_or es p b).1 < bound
item_below bound [] p b h l = absurd (omega (arith, l))
item_below bound (e ∷ es) zero b h l = h.0
item_below bound (e ∷ es) (suc p) b h l = item_below bound es p b h.1 (omega (arith, l))

pub append_below : (bound : ℕ) (es : List Whole) (k : ℕ) (z : ℤ) → AreBelow bound es → magnitude z < bound → AreBelow bound (es ++ (k, z) ∷ [])
append_below bound [] k z h l = (l, tt)
append_below bound (e ∷ es) k z h l = (h.0, append_below bound es k z h.1 l)

-- a fraction of two integers
pub quotient_ratio : (n : ℤ) (d : ℕ) → 0 < d → quotient_of n (pos d) ≡ ratio n d
unfolding quotient_of
quotient_ratio n d h =
    ap (λ x. x *ℚ inverse (integer (pos d))) (sym (integer_ratio n))
    ∙ ap (λ x. ratio n 1 *ℚ x) (ap inverse (sym (integer_ratio (pos d))) ∙ whole_lines_tell.turned d 1 h (lit< tt))
    ∙ ratio-mul n (pos 1) 1 d (lit< tt) h
    ∙ (let e : n *ℤ pos 1 ≡ n = omega (arith, ints) in let f : 1 * d ≡ d = omega arith in ap (λ z. ratio z (1 * d)) e ∙ ap (ratio n) f)

pub fault_never : (n q : ℤ) (d : ℕ) (fault : FracFault) → 0 < d → d < 2 ^ 42 → magnitude n < 2 ^ 64 → q ≡ pos d → IsFaultOf n q fault → ⊥
fault_never n q d ZeroBelow h s l e f = omega (arith, ints, h, e, f)
fault_never n q d Wide h s l e f =
    let fits : fits_range (quotient_of n q) ≡ true = ap (λ z. fits_range (quotient_of n z)) e ∙ ap fits_range (quotient_ratio n d h) ∙ fits_in (ratio n d) (fits-ratio n d h (omega (arith, l)) (omega (arith, s))) in
    true≢false (sym fits ∙ f.1)
