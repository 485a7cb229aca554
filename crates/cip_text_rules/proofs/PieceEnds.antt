-- A piece that has ended is the same whatever follows.
use Rattle.std.proofs.Common.{◌≡◌, ◌⊎◌, ℕ, zero, suc, ◌+◌, ◌-◌, ◌≤◌, ◌==◌, Bool, true, false, cond, not, ◌&&◌, ◌||◌, List, [], ◌∷◌, ◌++◌, length, take, drop, inl, inr, refl, sym, ap, subst, ◌∙◌, arith, length-drop}
use Rattle.std.specs.Prelude.{nat_lt}
use Rattle.std.specs.Char.{is_ascii_digit, is_ascii_alphanumeric}
use Rattle.std.specs.Int.{is_in_range}
use Rattle.std.specs.List.{prefix_len}
use Rattle.std.proofs.lemmas.List.{drop-append-le, take-append-le}
use Rattle.std.proofs.lemmas.List.Sums.{prefix_len-le-length}
use Rattle.std.proofs.lemmas.Bool.{cond-false, eqb-true, false_from_ne_true, or_from}
use Rattle.cip_rational.specs.Numeral.{is_sign, is_exponent_mark, is_point}
use Rattle.cip_text_rules.specs.LpWords.{begins_name, is_name_byte, begins_number, digits_length, sign_length, signed_length, exponent_length, decimals_length, mantissa_length, has_digit, number_length, Relation, AtMost, EqualTo, AtLeast, Piece, WordPiece, NumberPiece, SignPiece, ColonPiece, RelationPiece, NoPiece, equal_relation, mark_piece, is_double, number_piece, first_piece, first_rest}
use Rattle.cip_text_rules.specs.LpParts.{is_relation_mark, joins}
use Rattle.cip_text_rules.proofs.BlockLaws.{not_true}
use Rattle.cip_text_rules.proofs.Quiet.{left_false, right_false}

-- ---- bytes

-- a byte that no name goes on with
pub no_digit : (b : ℕ) → is_name_byte b ≡ false → is_ascii_digit b ≡ false
no_digit b h =
    left_false (is_in_range 48 57 b) (is_in_range 65 90 b)
    (left_false (is_in_range 48 57 b || is_in_range 65 90 b) (is_in_range 97 122 b)
    (left_false (is_ascii_alphanumeric b) (b == 95 || (b == 46 || (b == 35 || b == 36))) h))

pub no_point : (b : ℕ) → is_name_byte b ≡ false → is_point b ≡ false
no_point b h = left_false (b == 46) (b == 35 || b == 36) (right_false (b == 95) (b == 46 || (b == 35 || b == 36)) (right_false (is_ascii_alphanumeric b) (b == 95 || (b == 46 || (b == 35 || b == 36))) h))

other_than : (b c : ℕ) → is_name_byte b ≡ false → is_name_byte c ≡ true → (b == c) ≡ false
other_than b c h k = false_from_ne_true (b == c) (λ e. let t : is_name_byte b ≡ is_name_byte c = ap is_name_byte (eqb-true b c e) in absurd (cc (h, t, k)))

pub no_mark : (b : ℕ) → is_name_byte b ≡ false → is_exponent_mark b ≡ false
no_mark b h = or_from (b == 101) (b == 69) (other_than b 101 h refl) (other_than b 69 h refl)

-- the last of these bytes, if there is one, doesn't go on with this one
abbrev pub stops : List ℕ → ℕ → Bool
stops [] byte = true
stops (last ∷ []) byte = not (joins last byte)
stops (first ∷ second ∷ others) byte = stops (second ∷ others) byte

pub stops_behind : (x : ℕ) (xs : List ℕ) (b : ℕ) → stops (x ∷ xs) b ≡ true → stops xs b ≡ true
stops_behind x [] b h = refl
stops_behind x (y ∷ ys) b h = h

pub stops_drop : (n : ℕ) (xs : List ℕ) (b : ℕ) → stops xs b ≡ true → stops (drop n xs) b ≡ true
stops_drop zero [] b h = h
stops_drop zero (x ∷ xs) b h = h
stops_drop (suc n) [] b h = h
stops_drop (suc n) (x ∷ xs) b h = stops_drop n xs b (stops_behind x xs b h)

-- a byte goes on with the one before it as a sign or in a relation
abbrev joins_mark : ℕ → ℕ → Bool
joins_mark x b = (is_exponent_mark x && is_sign b) || (is_relation_mark x && is_relation_mark b)

pub no_name : (x : ℕ) (xs : List ℕ) (b : ℕ) → stops (x ∷ xs) b ≡ true → is_name_byte b ≡ false
no_name x [] b h = left_false (is_name_byte b) (joins_mark x b) (not_true (joins x b) h)
no_name x (y ∷ ys) b h = no_name y ys b h

no_exponent_sign : (x b : ℕ) → stops (x ∷ []) b ≡ true → (is_exponent_mark x && is_sign b) ≡ false
no_exponent_sign x b h = left_false (is_exponent_mark x && is_sign b) (is_relation_mark x && is_relation_mark b) (right_false (is_name_byte b) (joins_mark x b) (not_true (joins x b) h))

no_relation : (x b : ℕ) → stops (x ∷ []) b ≡ true → (is_relation_mark x && is_relation_mark b) ≡ false
no_relation x b h = right_false (is_exponent_mark x && is_sign b) (is_relation_mark x && is_relation_mark b) (right_false (is_name_byte b) (joins_mark x b) (not_true (joins x b) h))

-- ---- numbers

prefix_stop : (p : ℕ → Bool) (xs : List ℕ) (b : ℕ) (ys : List ℕ) → p b ≡ false → prefix_len p (xs ++ b ∷ ys) ≡ prefix_len p xs
prefix_stop p [] b ys h = cond-false (p b) (1 + prefix_len p ys) 0 h
prefix_stop p (x ∷ xs) b ys h = ap (λ (n : ℕ). cond (p x) (1 + n) 0) (prefix_stop p xs b ys h)

digits_stop : (xs : List ℕ) (b : ℕ) (ys : List ℕ) → is_name_byte b ≡ false → digits_length (xs ++ b ∷ ys) ≡ digits_length xs
digits_stop xs b ys h = prefix_stop is_ascii_digit xs b ys (no_digit b h)

digits_le : (xs : List ℕ) → digits_length xs ≤ length xs
digits_le xs = prefix_len-le-length is_ascii_digit xs

decimals_stop : (xs : List ℕ) (b : ℕ) (ys : List ℕ) → is_name_byte b ≡ false → decimals_length (xs ++ b ∷ ys) ≡ decimals_length xs
decimals_stop [] b ys h = cond-false (is_point b) (1 + digits_length ys) 0 (no_point b h)
decimals_stop (x ∷ xs) b ys h = ap (λ (n : ℕ). cond (is_point x) (1 + n) 0) (digits_stop xs b ys h)

decimals_le : (xs : List ℕ) → decimals_length xs ≤ length xs
decimals_le [] = omega arith
decimals_le (x ∷ xs) = go (is_point x)
  where
    go : (t : Bool) → cond t (1 + digits_length xs) 0 ≤ length (x ∷ xs)
    go true = let h = digits_le xs in omega (arith, h)
    go false = omega arith

mantissa_le : (xs : List ℕ) → mantissa_length xs ≤ length xs
mantissa_le xs =
    let a = digits_le xs in
    let b = decimals_le (drop (digits_length xs) xs) in
    let c = length-drop (digits_length xs) xs in
    sum_le (digits_length xs) (decimals_length (drop (digits_length xs) xs)) (length xs) (length (drop (digits_length xs) xs)) a b c
  where
    sum_le : (d e n m : ℕ) → d ≤ n → e ≤ m → m ≡ n - d → d + e ≤ n
    sum_le d e n m a b c = omega (arith, a, b, c)

mantissa_stop : (xs : List ℕ) (b : ℕ) (ys : List ℕ) → is_name_byte b ≡ false → mantissa_length (xs ++ b ∷ ys) ≡ mantissa_length xs
mantissa_stop xs b ys h =
    let d = digits_length xs in
    ap (λ (n : ℕ). n + decimals_length (drop n (xs ++ b ∷ ys))) (digits_stop xs b ys h)
    ∙ ap (λ (zs : List ℕ). d + decimals_length zs) (drop-append-le d xs (b ∷ ys) (digits_le xs))
    ∙ ap (λ (n : ℕ). d + n) (decimals_stop (drop d xs) b ys h)

sign_le : (xs : List ℕ) → sign_length xs ≤ length xs
sign_le [] = omega arith
sign_le (x ∷ xs) = go (is_sign x)
  where
    go : (t : Bool) → cond t 1 0 ≤ length (x ∷ xs)
    go true = omega arith
    go false = omega arith

-- behind the mark of an exponent
sign_stop : (m : ℕ) (xs : List ℕ) (b : ℕ) (ys : List ℕ) → stops (m ∷ xs) b ≡ true → is_exponent_mark m ≡ true → sign_length (xs ++ b ∷ ys) ≡ sign_length xs
sign_stop m [] b ys h e =
    let none : (true && is_sign b) ≡ false = ap (λ t. t && is_sign b) (sym e) ∙ no_exponent_sign m b h in
    cond-false (is_sign b) 1 0 none
sign_stop m (x ∷ xs) b ys h e = refl

signed_stop : (m : ℕ) (xs : List ℕ) (b : ℕ) (ys : List ℕ) → stops (m ∷ xs) b ≡ true → is_exponent_mark m ≡ true → signed_length (xs ++ b ∷ ys) ≡ signed_length xs
signed_stop m xs b ys h e =
    ap (λ (n : ℕ). digits_length (drop n (xs ++ b ∷ ys))) (sign_stop m xs b ys h e)
    ∙ ap digits_length (drop-append-le (sign_length xs) xs (b ∷ ys) (sign_le xs))
    ∙ digits_stop (drop (sign_length xs) xs) b ys (no_name m xs b h)

-- an exponent behind its mark
abbrev exponent_with : Bool → (sign digits : ℕ) → ℕ
exponent_with mark sign digits = cond (mark && nat_lt 0 digits) (1 + (sign + digits)) 0

exponent_stop : (xs : List ℕ) (b : ℕ) (ys : List ℕ) → stops xs b ≡ true → is_name_byte b ≡ false → exponent_length (xs ++ b ∷ ys) ≡ exponent_length xs
exponent_stop [] b ys h k = ap (λ t. exponent_with t (sign_length ys) (signed_length ys)) (no_mark b k)
exponent_stop (x ∷ xs) b ys h k = go (is_exponent_mark x) refl
  where
    go : (t : Bool) → is_exponent_mark x ≡ t → exponent_with (is_exponent_mark x) (sign_length (xs ++ b ∷ ys)) (signed_length (xs ++ b ∷ ys)) ≡ exponent_with (is_exponent_mark x) (sign_length xs) (signed_length xs)
    go true e = λ i. exponent_with (is_exponent_mark x) (sign_stop x xs b ys h e i) (signed_stop x xs b ys h e i)
    go false e =
        ap (λ t. exponent_with t (sign_length (xs ++ b ∷ ys)) (signed_length (xs ++ b ∷ ys))) e
        ∙ sym (ap (λ t. exponent_with t (sign_length xs) (signed_length xs)) e)

signed_le : (xs : List ℕ) → sign_length xs + signed_length xs ≤ length xs
signed_le xs =
    let a = sign_le xs in
    let b = digits_le (drop (sign_length xs) xs) in
    let c = length-drop (sign_length xs) xs in
    sum_le (sign_length xs) (signed_length xs) (length xs) (length (drop (sign_length xs) xs)) a b c
  where
    sum_le : (d e n m : ℕ) → d ≤ n → e ≤ m → m ≡ n - d → d + e ≤ n
    sum_le d e n m a b c = omega (arith, a, b, c)

exponent_le : (xs : List ℕ) → exponent_length xs ≤ length xs
exponent_le [] = omega arith
exponent_le (x ∷ xs) = go (is_exponent_mark x && nat_lt 0 (signed_length xs))
  where
    go : (t : Bool) → cond t (1 + (sign_length xs + signed_length xs)) 0 ≤ length (x ∷ xs)
    go true = let h = signed_le xs in omega (arith, h)
    go false = omega arith

number_le : (xs : List ℕ) → number_length xs ≤ length xs
number_le xs = go (has_digit xs)
  where
    sum_le : (d e n k : ℕ) → d ≤ n → e ≤ k → k ≡ n - d → d + e ≤ n
    sum_le d e n k a b c = omega (arith, a, b, c)

    go : (t : Bool) → cond t (mantissa_length xs + exponent_length (drop (mantissa_length xs) xs)) 0 ≤ length xs
    go true = sum_le (mantissa_length xs) (exponent_length (drop (mantissa_length xs) xs)) (length xs) (length (drop (mantissa_length xs) xs)) (mantissa_le xs) (exponent_le (drop (mantissa_length xs) xs)) (length-drop (mantissa_length xs) xs)
    go false = omega arith

number_stop : (xs : List ℕ) (b : ℕ) (ys : List ℕ) → stops xs b ≡ true → is_name_byte b ≡ false → number_length (xs ++ b ∷ ys) ≡ number_length xs
number_stop xs b ys h k =
    λ i. cond (nat_lt 0 (digits_stop xs b ys k i) || nat_lt 1 (mantissa_stop xs b ys k i)) (mantissa_stop xs b ys k i + tail i) 0
  where
    tail : exponent_length (drop (mantissa_length (xs ++ b ∷ ys)) (xs ++ b ∷ ys)) ≡ exponent_length (drop (mantissa_length xs) xs)
    tail =
        ap (λ (n : ℕ). exponent_length (drop n (xs ++ b ∷ ys))) (mantissa_stop xs b ys k)
        ∙ ap exponent_length (drop-append-le (mantissa_length xs) xs (b ∷ ys) (mantissa_le xs))
        ∙ exponent_stop (drop (mantissa_length xs) xs) b ys (stops_drop (mantissa_length xs) xs b h) k

-- ---- relations

-- neither of `<`, `=` and `>`
not_less : (x : ℕ) → is_relation_mark x ≡ false → (x == 60) ≡ false
not_less x h = left_false (x == 60) (x == 61 || x == 62) h

not_equal : (x : ℕ) → is_relation_mark x ≡ false → (x == 61) ≡ false
not_equal x h = left_false (x == 61) (x == 62) (right_false (x == 60) (x == 61 || x == 62) h)

not_more : (x : ℕ) → is_relation_mark x ≡ false → (x == 62) ≡ false
not_more x h = right_false (x == 61) (x == 62) (right_false (x == 60) (x == 61 || x == 62) h)

-- one of two bytes is none of these
one_of : (x b : ℕ) → (is_relation_mark x && is_relation_mark b) ≡ false → (is_relation_mark x ≡ false) ⊎ (is_relation_mark b ≡ false)
one_of x b h = go (is_relation_mark x) refl
  where
    go : (t : Bool) → is_relation_mark x ≡ t → (is_relation_mark x ≡ false) ⊎ (is_relation_mark b ≡ false)
    go false e = inl e
    go true e = inr (ap (λ t. t && is_relation_mark b) (sym e) ∙ h)

abbrev double_with : (x : ℕ) → (equal less more : Bool) → Bool
double_with x equal less more = ((x == 60 || x == 62) && equal) || (x == 61 && (less || more))

double_none : (x : ℕ) (equal less more : Bool) → is_relation_mark x ≡ false → double_with x equal less more ≡ false
double_none x equal less more e = λ i. ((not_less x e i || not_more x e i) && equal) || (not_equal x e i && (less || more))

double_single : (x : ℕ) → double_with x false false false ≡ false
double_single x = go (x == 60 || x == 62) (x == 61)
  where
    go : (s t : Bool) → ((s && false) || (t && (false || false))) ≡ false
    go true true = refl
    go true false = refl
    go false true = refl
    go false false = refl

double_stop : (x : ℕ) (xs : List ℕ) (b : ℕ) (ys : List ℕ) → stops (x ∷ xs) b ≡ true → is_double x (xs ++ b ∷ ys) ≡ is_double x xs
double_stop x [] b ys h = elim (one_of x b (no_relation x b h)) [
  | inl e ↦ double_none x (b == 61) (b == 60) (b == 62) e ∙ sym (double_single x)
  | inr e ↦ λ i. double_with x (not_equal b e i) (not_less b e i) (not_more b e i)
]
double_stop x (c ∷ xs) b ys h = refl

double_le : (x : ℕ) (xs : List ℕ) → cond (is_double x xs) 1 0 ≤ length xs
double_le x [] = subst (λ (t : Bool). cond t 1 0 ≤ 0) (sym (double_single x)) (omega arith)
double_le x (c ∷ xs) = go (is_double x (c ∷ xs))
  where
    go : (t : Bool) → cond t 1 0 ≤ length (c ∷ xs)
    go true = omega arith
    go false = omega arith

-- a mark, where `=` is this relation
abbrev mark_with : (x : ℕ) → (equal : Bool) → Relation → Piece
mark_with x equal relation =
    cond (x == 43) (SignPiece false) (cond (x == 45) (SignPiece true) (cond (x == 58) ColonPiece (cond (x == 60) (RelationPiece AtMost)
    (cond (x == 62) (RelationPiece AtLeast) (cond equal (RelationPiece relation) NoPiece)))))

mark_stop : (x : ℕ) (xs : List ℕ) (b : ℕ) (ys : List ℕ) → stops (x ∷ xs) b ≡ true → mark_piece x (xs ++ b ∷ ys) ≡ mark_piece x xs
mark_stop x [] b ys h = elim (one_of x b (no_relation x b h)) [
  | inl e ↦ ap (λ t. mark_with x t (equal_relation (b ∷ ys))) (not_equal x e) ∙ sym (ap (λ t. mark_with x t EqualTo) (not_equal x e))
  | inr e ↦ λ i. mark_with x (x == 61) (cond (not_less b e i) AtMost (cond (not_more b e i) AtLeast EqualTo))
]
mark_stop x (c ∷ xs) b ys h = refl

-- ---- pieces

word_stop : (xs : List ℕ) (b : ℕ) (ys : List ℕ) → is_name_byte b ≡ false → take (prefix_len is_name_byte (xs ++ b ∷ ys)) (xs ++ b ∷ ys) ≡ take (prefix_len is_name_byte xs) xs
word_stop xs b ys k =
    ap (λ (n : ℕ). take n (xs ++ b ∷ ys)) (prefix_stop is_name_byte xs b ys k)
    ∙ take-append-le (prefix_len is_name_byte xs) xs (b ∷ ys) (prefix_len-le-length is_name_byte xs)

text_stop : (xs : List ℕ) (b : ℕ) (ys : List ℕ) → stops xs b ≡ true → is_name_byte b ≡ false → number_piece (number_length (xs ++ b ∷ ys)) (xs ++ b ∷ ys) ≡ number_piece (number_length xs) xs
text_stop xs b ys h k =
    ap (λ (n : ℕ). number_piece n (xs ++ b ∷ ys)) (number_stop xs b ys h k)
    ∙ ap (λ (zs : List ℕ). cond (nat_lt 0 (number_length xs)) (NumberPiece zs) NoPiece) (take-append-le (number_length xs) xs (b ∷ ys) (number_le xs))

pub piece_stop : (x : ℕ) (xs : List ℕ) (b : ℕ) (ys : List ℕ) → stops (x ∷ xs) b ≡ true → first_piece x (xs ++ b ∷ ys) ≡ first_piece x xs
piece_stop x xs b ys h =
    let k = no_name x xs b h in
    λ i. cond (begins_name x) (WordPiece (x ∷ word_stop xs b ys k i)) (cond (begins_number x) (text_stop (x ∷ xs) b ys h k i) (mark_stop x xs b ys h i))

pub rest_stop : (x : ℕ) (xs : List ℕ) (b : ℕ) (ys : List ℕ) → stops (x ∷ xs) b ≡ true → first_rest x (xs ++ b ∷ ys) ≡ first_rest x xs
rest_stop x xs b ys h =
    let k = no_name x xs b h in
    λ i. cond (begins_name x) (prefix_stop is_name_byte xs b ys k i) (cond (begins_number x) (number_stop (x ∷ xs) b ys h k i - 1) (cond (double_stop x xs b ys h i) 1 0))

pub rest_le : (x : ℕ) (xs : List ℕ) → first_rest x xs ≤ length xs
rest_le x xs = go (begins_name x) (begins_number x)
  where
    less : (n m : ℕ) → n ≤ suc m → n - 1 ≤ m
    less n m h = omega (arith, h)

    go : (s t : Bool) → cond s (prefix_len is_name_byte xs) (cond t (number_length (x ∷ xs) - 1) (cond (is_double x xs) 1 0)) ≤ length xs
    go true t = prefix_len-le-length is_name_byte xs
    go false true = less (number_length (x ∷ xs)) (length xs) (number_le (x ∷ xs))
    go false false = double_le x xs
