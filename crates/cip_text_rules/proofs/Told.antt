-- Numbers that a line without fault has, and their tests on values: what the code may test in place of the text.
--     IsTold numeral      a number that is told: in range, and 0 without a sign
--     is_negative_is, is_zero_is, absolute_is      sign, zero and size are those of the value
--     said_sound      numbers of lines are sound
use Rattle.std.proofs.Common.{◌≡◌, ℕ, zero, suc, ◌<◌, Bool, true, false, List, [], ◌∷◌, map, Option, None, Some, refl, sym, ap, subst, ◌∙◌, arith, lit<, pos, negsuc, ◌*ℤ◌, leb, ◌&&◌, not, ◌^◌, ◌*◌, ◌≤◌, cond}
use Rattle.std.specs.Prelude.{◌≤ℤ◌, ◌<ℤ◌, nat_le}
use Rattle.std.specs.Str.{bytes_eq}
use Rattle.std.specs.List.{AllByRecursion, list_any}
use Rattle.std.proofs.Math.Dec.{leb-suc-zero}
use Rattle.std.proofs.lemmas.Int.{ints}
use Rattle.std.proofs.lemmas.Bool.{cond_both, leb-true, leb-false, false_from_ne_true}
use Rattle.cip_text_rules.specs.MpsStepStatements.{is_far_value, is_positive_value}
use Rattle.cip_rational.specs.Rational.{ℚ, zeroℚ, ratio, lt_test, absolute, ◌≤ℚ◌, ◌<ℚ◌, integer, le_test}
use Rattle.cip_rational.proofs.Rational.Ratio.{integer_ratio, ratio-negate, ratio-lt, ratio-le, le-ratio}
use Rattle.cip_rational.proofs.Rational.Order.{≤ℚ_refl, ≤ℚ_of_lt, test_of_lt, lt_test_of_le, test_of_le, le_of_test}
use Rattle.cip_rational.proofs.Rational.Extremes.{absolute_nonneg, absolute_negative}
use Rattle.cip_rational.proofs.Rational.Rounding.{integer-zero}
use Rattle.cip_rational.specs.Numeral.{Numeral, numeral_of, Exact, NotANumber, Huge, TooFine, signed, value_of}
use Rattle.cip_rational.specs.NumeralStatements.{IsInRange}
use Rattle.cip_rational.proofs.InRange.{IsSound, sound_numeral}
use Rattle.cip_rational.proofs.Rational.Inverse.{ratio_zero}
use Rattle.cip_text_rules.specs.Lines.{Record, Section, Entry}
use Rattle.cip_text_rules.specs.MpsWords.{Part, NoPart, Title, Sense, Rows, Columns, RightSides, Ranges, Bounds, End, BoundKind, section_of, marker_of, bound_kind_of, has_value, bound_number, is_zero, is_negative, is_positive, is_no_number, is_huge, is_too_fine, near_or_huge}
use Rattle.cip_text_rules.specs.MpsSayings.{Value, Saying, Skipped, Misplaced, ColumnLine, RightSideLine, RangeLine, BoundLine, no_value, LinePlace, opening, section_said, sense_said, row_said, one_value, two_values, is_marker, marker_said, column_said, of_set, right_side_said, range_said, valued_bound, plain_bound, typed_bound, bound_said, fields_said, said}
use Rattle.cip_text_rules.specs.MpsProgram.{number, unsigned}
use Rattle.cip_text_rules.specs.MpsRules.{values_in}
use Rattle.cip_text_rules.proofs.Quiet.{left_false, right_false}
use Rattle.cip_text_rules.specs.MpsState.{is_negative_value, is_zero_value}

-- ---- values against 0

zero_over_one : ratio (pos 0) 1 ≡ zeroℚ
zero_over_one = integer_ratio (pos 0) ∙ integer-zero

below_zero : (m b : ℕ) → 0 < b → ratio (negsuc m) b <ℚ zeroℚ
below_zero m b h = subst (λ (x : ℚ). ratio (negsuc m) b <ℚ x) zero_over_one (ratio-lt (pos 0) (negsuc m) 1 b (lit< tt) h (lt m b h))
  where
    lt : (m b : ℕ) → 0 < b → (negsuc m *ℤ pos 1) <ℤ (pos 0 *ℤ pos b)
    lt m b h = omega (arith, ints)

above_zero : (m b : ℕ) → 0 < b → zeroℚ <ℚ ratio (pos (suc m)) b
above_zero m b h = subst (λ (x : ℚ). x <ℚ ratio (pos (suc m)) b) zero_over_one (ratio-lt (pos (suc m)) (pos 0) b 1 h (lit< tt) (lt m b h))
  where
    lt : (m b : ℕ) → 0 < b → (pos 0 *ℤ pos b) <ℤ (pos (suc m) *ℤ pos 1)
    lt m b h = omega (arith, ints)

from_zero : (s b : ℕ) → 0 < b → zeroℚ ≤ℚ ratio (pos s) b
from_zero s b h = subst (λ (x : ℚ). x ≤ℚ ratio (pos s) b) zero_over_one (ratio-le (pos 0) (pos s) 1 b (lit< tt) h (le s b h))
  where
    le : (s b : ℕ) → 0 < b → (pos 0 *ℤ pos b) ≤ℤ (pos s *ℤ pos 1)
    le s b h = omega (arith, ints)

zero_not_below : lt_test zeroℚ zeroℚ ≡ false
zero_not_below = lt_test_of_le (≤ℚ_refl zeroℚ)

-- ---- numbers that are told

pub record IsTold (numeral : Numeral) : Type 0 where
  pub negative : Bool
  pub size : ℕ
  pub below : ℕ
  pub is : numeral ≡ Exact negative size below
  pub in_range : IsInRange negative size below

exact_negative : (n : Bool) (s b : ℕ) → IsInRange n s b → n ≡ is_negative_value (ratio (signed n s) b)
exact_negative false s b r = sym (lt_test_of_le (from_zero s b r.positive))
exact_negative true zero b r = let e : true ≡ false = r.zero_unsigned refl in absurd (cc)
exact_negative true (suc m) b r = sym (test_of_lt (below_zero m b r.positive))

exact_zero : (n : Bool) (s b : ℕ) → IsInRange n s b → leb s 0 ≡ is_zero_value (ratio (signed n s) b)
exact_zero true zero b r = let e : true ≡ false = r.zero_unsigned refl in absurd (cc)
exact_zero false zero b r = rw (ratio_zero b r.positive, zero_not_below)
exact_zero false (suc m) b r = rw (test_of_lt (above_zero m b r.positive), lt_test_of_le (from_zero (suc m) b r.positive)) (leb-suc-zero m)
exact_zero true (suc m) b r = rw (test_of_lt (below_zero m b r.positive)) (leb-suc-zero m)

exact_absolute : (n : Bool) (s b : ℕ) → IsInRange n s b → ratio (pos s) b ≡ absolute (ratio (signed n s) b)
exact_absolute false s b r = sym (absolute_nonneg (from_zero s b r.positive))
exact_absolute true zero b r = let e : true ≡ false = r.zero_unsigned refl in absurd (cc)
exact_absolute true (suc m) b r = sym (absolute_negative (below_zero m b r.positive) ∙ ratio-negate (negsuc m) b)

-- a sound number isn't above the range, and is 0 where it has no value
pub is_negative_is : (numeral : Numeral) → IsSound numeral → is_huge numeral ≡ false → is_negative numeral ≡ is_negative_value (number numeral)
is_negative_is (Exact n s b) h e = exact_negative n s b (h.told n s b refl)
is_negative_is NotANumber h e = sym zero_not_below
is_negative_is (Huge n) h e = absurd (cc)
is_negative_is TooFine h e = sym zero_not_below

pub absolute_is : (numeral : Numeral) → IsSound numeral → is_huge numeral ≡ false → number (unsigned numeral) ≡ absolute (number numeral)
absolute_is (Exact n s b) h e = exact_absolute n s b (h.told n s b refl)
absolute_is NotANumber h e = sym (absolute_nonneg (≤ℚ_refl zeroℚ))
absolute_is (Huge n) h e = absurd (cc)
absolute_is TooFine h e = sym (absolute_nonneg (≤ℚ_refl zeroℚ))

pub is_zero_is : (numeral : Numeral) → IsTold numeral → is_zero numeral ≡ is_zero_value (number numeral)
is_zero_is numeral t = ap is_zero t.is ∙ exact_zero t.negative t.size t.below t.in_range ∙ ap (λ n. is_zero_value (number n)) (sym t.is)

-- a value that passes the test of 0 is 0
pub zero_is_zero : is_zero_value zeroℚ ≡ true
zero_is_zero = ap (λ b. not b && not b) zero_not_below

pub told_sound : (numeral : Numeral) → IsTold numeral → IsSound numeral
told_sound numeral t = record { told = λ n s b e. same n s b (sym t.is ∙ e) }
  where
    same : (n : Bool) (s b : ℕ) → Exact t.negative t.size t.below ≡ Exact n s b → IsInRange n s b
    same n s b e =
        let p : t.negative ≡ n = cc in
        let q : t.size ≡ s = cc in
        let r : t.below ≡ b = cc in
        subst (λ x. IsInRange x s b) p (subst (λ x. IsInRange t.negative x b) q (subst (λ x. IsInRange t.negative t.size x) r t.in_range))

pub told_near : (numeral : Numeral) → IsTold numeral → is_huge numeral ≡ false
told_near numeral t = ap is_huge t.is

-- a number without fault is told
pub is_told : (numeral : Numeral) → IsSound numeral → is_no_number numeral ≡ false → is_huge numeral ≡ false → is_too_fine numeral ≡ false → IsTold numeral
is_told (Exact n s b) h p q r = record { negative = n; size = s; below = b; is = refl; in_range = h.told n s b refl }
is_told NotANumber h p q r = absurd (cc)
is_told (Huge n) h p q r = absurd (cc)
is_told TooFine h p q r = absurd (cc)

-- ---- the numbers of lines

abbrev pub AreSound : List Value → Type 0
AreSound values = AllByRecursion (λ value. IsSound value.number) values

abbrev pub AreTold : List Value → Type 0
AreTold values = AllByRecursion (λ value. IsTold value.number) values

pub are_told : (values : List Value) → AreSound values → list_any is_no_number (map (λ value. value.number) values) ≡ false → list_any (λ value. is_huge value.number) values ≡ false → list_any is_too_fine (map (λ value. value.number) values) ≡ false → AreTold values
are_told [] h p q r = tt
are_told (v ∷ vs) h p q r =
    (is_told v.number h.0 (left_false _ _ p) (left_false _ _ q) (left_false _ _ r), are_told vs h.1 (right_false _ _ p) (right_false _ _ q) (right_false _ _ r))

abbrev Sound : Saying → Type 0
Sound saying = AreSound (values_in saying)

one_sound : (row text : List ℕ) → AreSound (one_value row text)
one_sound row text = (sound_numeral text, tt)

two_sound : (row text other_row other_text : List ℕ) → AreSound (two_values row text other_row other_text)
two_sound row text other_row other_text = (sound_numeral text, (sound_numeral other_text, tt))

set_sound : (first : Option (List ℕ)) (set_name : List ℕ) (saying : Saying) → Sound saying → Sound (of_set first set_name saying)
set_sound None set_name saying h = h
set_sound (Some f) set_name saying h = cond_both (bytes_eq f set_name) saying Skipped Sound (λ _. h) (λ _. tt)

section_sound : (words : List (List ℕ)) → Sound (section_said words)
section_sound [] = tt
section_sound (word ∷ words) = go (section_of word)
  where
    go : (part : Option Part) → Sound (opening part words)
    go None = tt
    go (Some part) = tt

marker_sound : (marker : Option Bool) → Sound (marker_said marker)
marker_sound None = tt
marker_sound (Some begins) = tt

sense_sound : (words : List (List ℕ)) → Sound (sense_said words)
sense_sound (word ∷ []) = tt
sense_sound other = tt

row_sound : (words : List (List ℕ)) → Sound (row_said words)
row_sound (kind ∷ name ∷ []) = tt
row_sound other = tt

column_sound : (whole : Bool) (words : List (List ℕ)) → Sound (column_said whole words)
column_sound whole (column ∷ row ∷ text ∷ []) =
    cond_both (is_marker row text) (marker_said (marker_of text)) (ColumnLine column whole (one_value row text)) Sound
    (λ _. marker_sound (marker_of text)) (λ _. one_sound row text)
column_sound whole (column ∷ row ∷ text ∷ other_row ∷ other_text ∷ []) = two_sound row text other_row other_text
column_sound whole other = tt

right_side_sound : (first : Option (List ℕ)) (words : List (List ℕ)) → Sound (right_side_said first words)
right_side_sound first (row ∷ text ∷ []) = set_sound first [] (RightSideLine [] (one_value row text)) (one_sound row text)
right_side_sound first (set_name ∷ row ∷ text ∷ []) = set_sound first set_name (RightSideLine set_name (one_value row text)) (one_sound row text)
right_side_sound first (row ∷ text ∷ other_row ∷ other_text ∷ []) = set_sound first [] (RightSideLine [] (two_values row text other_row other_text)) (two_sound row text other_row other_text)
right_side_sound first (set_name ∷ row ∷ text ∷ other_row ∷ other_text ∷ []) = set_sound first set_name (RightSideLine set_name (two_values row text other_row other_text)) (two_sound row text other_row other_text)
right_side_sound first other = tt

range_sound : (first : Option (List ℕ)) (words : List (List ℕ)) → Sound (range_said first words)
range_sound first (row ∷ text ∷ []) = set_sound first [] (RangeLine [] (one_value row text)) (one_sound row text)
range_sound first (set_name ∷ row ∷ text ∷ []) = set_sound first set_name (RangeLine set_name (one_value row text)) (one_sound row text)
range_sound first (row ∷ text ∷ other_row ∷ other_text ∷ []) = set_sound first [] (RangeLine [] (two_values row text other_row other_text)) (two_sound row text other_row other_text)
range_sound first (set_name ∷ row ∷ text ∷ other_row ∷ other_text ∷ []) = set_sound first set_name (RangeLine set_name (two_values row text other_row other_text)) (two_sound row text other_row other_text)
range_sound first other = tt

valued_sound : (first : Option (List ℕ)) (kind : BoundKind) (words : List (List ℕ)) → Sound (valued_bound first kind words)
valued_sound first kind (column ∷ text ∷ []) = set_sound first [] (BoundLine kind [] column (bound_number text)) tt
valued_sound first kind (set_name ∷ column ∷ text ∷ []) = set_sound first set_name (BoundLine kind set_name column (bound_number text)) tt
valued_sound first kind other = tt

plain_sound : (first : Option (List ℕ)) (kind : BoundKind) (words : List (List ℕ)) → Sound (plain_bound first kind words)
plain_sound first kind (column ∷ []) = set_sound first [] (BoundLine kind [] column no_value) tt
plain_sound first kind (set_name ∷ column ∷ []) = set_sound first set_name (BoundLine kind set_name column no_value) tt
plain_sound first kind (set_name ∷ column ∷ text ∷ []) = set_sound first set_name (BoundLine kind set_name column no_value) tt
plain_sound first kind other = tt

typed_sound : (first : Option (List ℕ)) (kind : Option BoundKind) (words : List (List ℕ)) → Sound (typed_bound first kind words)
typed_sound first None words = tt
typed_sound first (Some kind) words =
    cond_both (has_value kind) (valued_bound first kind words) (plain_bound first kind words) Sound
    (λ _. valued_sound first kind words) (λ _. plain_sound first kind words)

bound_sound : (first : Option (List ℕ)) (words : List (List ℕ)) → Sound (bound_said first words)
bound_sound first [] = tt
bound_sound first (kind ∷ words) = typed_sound first (bound_kind_of kind) words

fields_sound : (part : Part) (place : LinePlace) (words : List (List ℕ)) → Sound (fields_said part place words)
fields_sound NoPart place words = tt
fields_sound Title place words = tt
fields_sound Sense place words = cond_both place.sensed Misplaced (sense_said words) Sound (λ _. tt) (λ _. sense_sound words)
fields_sound Rows place words = row_sound words
fields_sound Columns place words = column_sound place.whole words
fields_sound RightSides place words = right_side_sound place.set_name words
fields_sound Ranges place words = range_sound place.set_name words
fields_sound Bounds place words = bound_sound place.set_name words
fields_sound End place words = tt

pub said_sound : (place : LinePlace) (content : Record) → AreSound (values_in (said place content))
said_sound place (Section words) = section_sound words
said_sound place (Entry words) = fields_sound place.part place words

-- ---- number texts with a value

-- 10^20 times the lower number is at most the upper one exactly where the size is at least 10^20
far_is : (s b : ℕ) → 0 < b → nat_le (10 ^ 20 * b) s ≡ le_test (integer (pos (10 ^ 20))) (ratio (pos s) b)
far_is s b h = go (nat_le (10 ^ 20 * b) s) refl
  where
    inside : 10 ^ 20 * b ≤ s → (pos (10 ^ 20) *ℤ pos b) ≤ℤ (pos s *ℤ pos 1)
    inside l = omega (arith, ints, l)

    outside : (pos (10 ^ 20) *ℤ pos b) ≤ℤ (pos s *ℤ pos 1) → 10 ^ 20 * b ≤ s
    outside l = omega (arith, ints, l)

    go : (t : Bool) → nat_le (10 ^ 20 * b) s ≡ t → nat_le (10 ^ 20 * b) s ≡ le_test (integer (pos (10 ^ 20))) (ratio (pos s) b)
    go true e =
        e ∙ sym (test_of_le (subst (λ (x : ℚ). x ≤ℚ ratio (pos s) b) (integer_ratio (pos (10 ^ 20)))
        (ratio-le (pos (10 ^ 20)) (pos s) 1 b (lit< tt) h (inside (leb-true (10 ^ 20 * b) s e)))))
    go false e =
        e ∙ sym (false_from_ne_true (le_test (integer (pos (10 ^ 20))) (ratio (pos s) b)) (λ t.
        let l : 10 ^ 20 * b ≤ s = outside (le-ratio (pos (10 ^ 20)) (pos s) 1 b (lit< tt) h (subst (λ (x : ℚ). x ≤ℚ ratio (pos s) b) (sym (integer_ratio (pos (10 ^ 20)))) (le_of_test t))) in
        let m : s < 10 ^ 20 * b = leb-false (10 ^ 20 * b) s e in absurd (omega (arith, l, m))))

record HasValue (numeral : Numeral) (value : ℚ) : Type 0 where
  negative : Bool
  size : ℕ
  below : ℕ
  is : numeral ≡ Exact negative size below
  in_range : IsInRange negative size below
  is_value : ratio (signed negative size) below ≡ value

has_value_of : (numeral : Numeral) → IsSound numeral → (value : ℚ) → value_of numeral ≡ Some value → HasValue numeral value
has_value_of (Exact n s b) h value e = record { negative = n; size = s; below = b; is = refl; in_range = h.told n s b refl; is_value = cc }
has_value_of NotANumber h value e = absurd (cc)
has_value_of (Huge n) h value e = absurd (cc)
has_value_of TooFine h value e = absurd (cc)

pub value_zero : (text : List ℕ) (value : ℚ) → value_of (numeral_of text) ≡ Some value → is_zero (numeral_of text) ≡ is_zero_value value
value_zero text value e =
    let v = has_value_of (numeral_of text) (sound_numeral text) value e in
    ap is_zero v.is ∙ exact_zero v.negative v.size v.below v.in_range ∙ ap is_zero_value v.is_value

pub value_negative : (text : List ℕ) (value : ℚ) → value_of (numeral_of text) ≡ Some value → is_negative (numeral_of text) ≡ is_negative_value value
value_negative text value e =
    let v = has_value_of (numeral_of text) (sound_numeral text) value e in
    ap is_negative v.is ∙ exact_negative v.negative v.size v.below v.in_range ∙ ap is_negative_value v.is_value

pub value_size : (text : List ℕ) (value : ℚ) → value_of (numeral_of text) ≡ Some value → number (unsigned (numeral_of text)) ≡ absolute value
value_size text value e =
    let v = has_value_of (numeral_of text) (sound_numeral text) value e in
    ap (λ n. number (unsigned n)) v.is ∙ exact_absolute v.negative v.size v.below v.in_range ∙ ap absolute v.is_value

far_value : (n : Bool) (s b : ℕ) (value : ℚ) → IsInRange n s b → ratio (signed n s) b ≡ value → nat_le (10 ^ 20 * b) s ≡ is_far_value value
far_value n s b value r e = far_is s b r.positive ∙ ap (le_test (integer (pos (10 ^ 20)))) (exact_absolute n s b r ∙ ap absolute e)

pub value_far : (text : List ℕ) (value : ℚ) → value_of (numeral_of text) ≡ Some value → is_huge (near_or_huge (numeral_of text)) ≡ is_far_value value
value_far text value e =
    let v = has_value_of (numeral_of text) (sound_numeral text) value e in
    ap (λ n. is_huge (near_or_huge n)) v.is ∙ go v.negative v.size v.below (nat_le (10 ^ 20 * v.below) v.size)
    ∙ far_value v.negative v.size v.below value v.in_range v.is_value
  where
    go : (n : Bool) (s b : ℕ) (t : Bool) → is_huge (cond t (Huge n) (Exact n s b)) ≡ t
    go n s b true = refl
    go n s b false = refl

pub value_bound : (text : List ℕ) (value : ℚ) → value_of (numeral_of text) ≡ Some value → value_of (near_or_huge (numeral_of text)) ≡ cond (is_far_value value) None (Some value)
value_bound text value e =
    let v = has_value_of (numeral_of text) (sound_numeral text) value e in
    ap (λ n. value_of (near_or_huge n)) v.is ∙ go v.negative v.size v.below (nat_le (10 ^ 20 * v.below) v.size)
    ∙ (let f = far_value v.negative v.size v.below value v.in_range v.is_value in let w = v.is_value in λ i. cond (f i) None (Some (w i)))
  where
    go : (n : Bool) (s b : ℕ) (t : Bool) → value_of (cond t (Huge n) (Exact n s b)) ≡ cond t None (Some (ratio (signed n s) b))
    go n s b true = refl
    go n s b false = refl

pub value_bound_negative : (text : List ℕ) (value : ℚ) → value_of (numeral_of text) ≡ Some value → is_negative (near_or_huge (numeral_of text)) ≡ is_negative_value value
value_bound_negative text value e =
    let v = has_value_of (numeral_of text) (sound_numeral text) value e in
    ap (λ n. is_negative (near_or_huge n)) v.is ∙ go v.negative v.size v.below (nat_le (10 ^ 20 * v.below) v.size)
    ∙ exact_negative v.negative v.size v.below v.in_range ∙ ap is_negative_value v.is_value
  where
    go : (n : Bool) (s b : ℕ) (t : Bool) → is_negative (cond t (Huge n) (Exact n s b)) ≡ n
    go n s b true = refl
    go n s b false = refl

-- a value above 0
exact_positive : (n : Bool) (s b : ℕ) → IsInRange n s b → (not n && not (leb s 0)) ≡ is_positive_value (ratio (signed n s) b)
exact_positive true zero b r = let e : true ≡ false = r.zero_unsigned refl in absurd (cc)
exact_positive false zero b r = rw (ratio_zero b r.positive, zero_not_below)
exact_positive false (suc m) b r = rw (test_of_lt (above_zero m b r.positive)) (ap not (leb-suc-zero m))
exact_positive true (suc m) b r = sym (lt_test_of_le (≤ℚ_of_lt (below_zero m b r.positive)))

pub value_bound_positive : (text : List ℕ) (value : ℚ) → value_of (numeral_of text) ≡ Some value → is_positive (near_or_huge (numeral_of text)) ≡ (not (is_far_value value) && is_positive_value value)
value_bound_positive text value e =
    let v = has_value_of (numeral_of text) (sound_numeral text) value e in
    let f = far_value v.negative v.size v.below value v.in_range v.is_value in
    let p = exact_positive v.negative v.size v.below v.in_range ∙ ap is_positive_value v.is_value in
    ap (λ n. is_positive (near_or_huge n)) v.is ∙ go v.negative v.size v.below (nat_le (10 ^ 20 * v.below) v.size)
    ∙ (λ i. not (f i) && p i)
  where
    go : (n : Bool) (s b : ℕ) (t : Bool) → is_positive (cond t (Huge n) (Exact n s b)) ≡ (not t && (not n && not (leb s 0)))
    go n s b true = refl
    go n s b false = refl
