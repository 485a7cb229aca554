-- Lists of decimal digits and the numbers that they say.
use Rattle.std.proofs.Common.{◌≡◌, ℕ, ◌+◌, ◌-◌, ◌*◌, ◌^◌, ◌<◌, ◌≤◌, true, false, List, [], ◌∷◌, ◌++◌, length, map, take, drop, get_or, sym, ap, subst, ◌∙◌, arith, leb-true, reverse}
use Rattle.std.specs.Char.{is_ascii_digit}
use Rattle.std.specs.Int.Digits.{number_from_digits, number_from_digits_after, AllBelowBase}
use Rattle.std.specs.List.{list_all, prefix_len}
use Rattle.std.proofs.lemmas.List.{take_more, map-append, length-map, take-append-drop, take_all, take-take, length-take-le, length-drop, get_or-take, get_or-drop, get_or-reverse, length-reverse}
use Rattle.std.proofs.Math.Seq.{take-append-add}
use Rattle.std.proofs.lemmas.List.Folds.{list_all-append}
use Rattle.std.proofs.lemmas.List.Sums.{prefix_len_stops, AllPass-from_list_all}
use Rattle.std.proofs.lemmas.Int.Digits.{number_after_append, number_after_ge, number_lt}
use Rattle.std.proofs.Math.Nat.{pow-suc}
use Rattle.cip_rational.specs.Numeral.{digits_value, zeros_at_end, is_zero_digit}
use Rattle.cip_rational.proofs.InRange.{both_left, both_right}

abbrev pub digit : ℕ → ℕ
digit byte = byte - 48

-- ---- digit after digit

pub after_more : (start : ℕ) (ds : List ℕ) (i : ℕ) → i < length ds → number_from_digits_after 10 start (map digit (take (i + 1) ds)) ≡ number_from_digits_after 10 start (map digit (take i ds)) * 10 + (get_or ds i 0 - 48)
after_more start ds i h =
    ap (λ l. number_from_digits_after 10 start (map digit l)) (take_more ds i 0 h)
    ∙ ap (number_from_digits_after 10 start) (map-append digit (take i ds) (get_or ds i 0 ∷ []))
    ∙ number_after_append 10 start (map digit (take i ds)) (digit (get_or ds i 0) ∷ [])

pub after_split : (start : ℕ) (xs ys : List ℕ) → number_from_digits_after 10 start (map digit (xs ++ ys)) ≡ number_from_digits_after 10 (number_from_digits_after 10 start (map digit xs)) (map digit ys)
after_split start xs ys = ap (number_from_digits_after 10 start) (map-append digit xs ys) ∙ number_after_append 10 start (map digit xs) (map digit ys)

pub after_part : (start : ℕ) (ds : List ℕ) (j : ℕ) → number_from_digits_after 10 start (map digit (take j ds)) ≤ number_from_digits_after 10 start (map digit ds)
after_part start ds j =
    let e = ap (λ l. number_from_digits_after 10 start (map digit l)) (take-append-drop j ds) in
    let s = after_split start (take j ds) (drop j ds) in
    let g = number_after_ge 10 (number_from_digits_after 10 start (map digit (take j ds))) (map digit (drop j ds)) (omega arith) in
    omega (arith, e, s, g)

number_after : (n : ℕ) (ds : List ℕ) → number_from_digits_after 10 n ds ≡ n * 10 ^ length ds + number_from_digits 10 ds
number_after n [] = omega arith
number_after n (d ∷ ds) =
    let a = number_after (n * 10 + d) ds in
    let b = number_after (0 * 10 + d) ds in
    omega (arith, ap (λ x. n * x) (pow-suc 10 (length ds)))

pub value_split : (xs ys : List ℕ) → digits_value (xs ++ ys) ≡ digits_value xs * 10 ^ length ys + digits_value ys
value_split xs ys = after_split 0 xs ys ∙ number_after (digits_value xs) (map digit ys) ∙ ap (λ n. digits_value xs * 10 ^ n + digits_value ys) (length-map ys digit)

-- ---- what digits say is below a power of ten

is_below : (x : ℕ) → is_ascii_digit x ≡ true → x - 48 < 10
is_below x e = grind (arith, leb-true)

all_below : (ds : List ℕ) → list_all is_ascii_digit ds ≡ true → AllBelowBase 10 (map digit ds)
all_below [] e = tt
all_below (x ∷ ds) e = (is_below x (both_left _ _ e), all_below ds (both_right _ _ e))

pub value_below : (ds : List ℕ) → list_all is_ascii_digit ds ≡ true → digits_value ds < 10 ^ length ds
value_below ds e = subst (λ n. digits_value ds < 10 ^ n) (length-map ds digit) (number_lt 10 (map digit ds) (all_below ds e))

pub digits_left : (xs ys : List ℕ) → list_all is_ascii_digit (xs ++ ys) ≡ true → list_all is_ascii_digit xs ≡ true
digits_left xs ys e = both_left _ _ (sym (list_all-append is_ascii_digit xs ys) ∙ e)

pub digits_right : (xs ys : List ℕ) → list_all is_ascii_digit (xs ++ ys) ≡ true → list_all is_ascii_digit ys ≡ true
digits_right xs ys e = both_right _ _ (sym (list_all-append is_ascii_digit xs ys) ∙ e)

pub digits_take : (j : ℕ) (ds : List ℕ) → list_all is_ascii_digit ds ≡ true → list_all is_ascii_digit (take j ds) ≡ true
digits_take j ds e = digits_left (take j ds) (drop j ds) (ap (list_all is_ascii_digit) (take-append-drop j ds) ∙ e)

pub digits_drop : (j : ℕ) (ds : List ℕ) → list_all is_ascii_digit ds ≡ true → list_all is_ascii_digit (drop j ds) ≡ true
digits_drop j ds e = digits_right (take j ds) (drop j ds) (ap (list_all is_ascii_digit) (take-append-drop j ds) ∙ e)

-- ---- the first digits on both sides of a point

pub first_both : (xs ys : List ℕ) (n : ℕ) → length xs ≤ n → take n (xs ++ ys) ≡ xs ++ take (n - length xs) ys
first_both xs ys n h =
    let e : n ≡ length xs + (n - length xs) = omega arith in
    ap (λ k. take k (xs ++ ys)) e ∙ take-append-add xs ys (n - length xs)

-- ---- the last digit that isn't 0

pub last_kept : (ds : List ℕ) (kept : ℕ) → kept + zeros_at_end ds ≡ length ds → 0 < kept → is_zero_digit (get_or ds (kept - 1) 0) ≡ false
last_kept ds kept e some =
    let n : ℕ = zeros_at_end ds in
    let long : length (reverse ds) ≡ length ds = length-reverse ds in
    let lt : prefix_len is_zero_digit (reverse ds) < length (reverse ds) = omega (arith, e, some, long) in
    let stop = prefix_len_stops is_zero_digit (reverse ds) 0 lt in
    let place = get_or-reverse ds (zeros_at_end ds) 0 (omega (arith, e, some)) in
    let at : length ds - 1 - zeros_at_end ds ≡ kept - 1 = omega (arith, e, some) in
    ap is_zero_digit (sym (place ∙ ap (λ k. get_or ds k 0) at)) ∙ stop

digit_some : (x : ℕ) → is_ascii_digit x ≡ true → is_zero_digit x ≡ false → 0 < x - 48
digit_some x e z = grind (arith, leb-true)

pub value_some : (ds : List ℕ) → list_all is_ascii_digit ds ≡ true → 0 < length ds → is_zero_digit (get_or ds (length ds - 1) 0) ≡ false → 0 < digits_value ds
value_some ds e some z =
    let i : ℕ = length ds - 1 in
    let lt : length ds - 1 < length ds = omega (arith, some) in
    let m = after_more 0 ds (length ds - 1) lt in
    let whole : length ds - 1 + 1 ≡ length ds = omega (arith, some) in
    let all : take (length ds - 1 + 1) ds ≡ ds = ap (λ k. take k ds) whole ∙ take_all (length ds) ds (omega arith) in
    let same : digits_value (take (length ds - 1 + 1) ds) ≡ digits_value ds = ap digits_value all in
    let d = digit_some (get_or ds (length ds - 1) 0) (AllPass-from_list_all is_ascii_digit ds e (length ds - 1) 0 lt) z in
    omega (arith, m, same, d)

-- the first digits, and what stands behind them
pub record IsCut (n head power : ℕ) : Type 0 where
  pub rest : ℕ
  pub sum : n ≡ head * power + rest
  pub some : 0 < rest
  pub below : rest < power

pub cut_digits : (ds : List ℕ) (kept j : ℕ) → list_all is_ascii_digit ds ≡ true → kept ≤ length ds → j < kept → is_zero_digit (get_or ds (kept - 1) 0) ≡ false
    → IsCut (digits_value (take kept ds)) (digits_value (take j ds)) (10 ^ (kept - j))
cut_digits ds kept j e within before z =
    let front : List ℕ = take kept ds in
    let rest : List ℕ = drop j (take kept ds) in
    let all : list_all is_ascii_digit (take kept ds) ≡ true = digits_take kept ds e in
    let size : length (take kept ds) ≡ kept = length-take-le kept ds within in
    let long : length (drop j (take kept ds)) ≡ kept - j = length-drop j (take kept ds) ∙ ap (λ n. n - j) size in
    let digits : list_all is_ascii_digit (drop j (take kept ds)) ≡ true = digits_drop j (take kept ds) all in
    let place : j + (length (drop j (take kept ds)) - 1) ≡ kept - 1 = omega (arith, long, before) in
    let last : get_or (drop j (take kept ds)) (length (drop j (take kept ds)) - 1) 0 ≡ get_or ds (kept - 1) 0 =
    get_or-drop j (take kept ds) (length (drop j (take kept ds)) - 1) 0 ∙ ap (λ k. get_or (take kept ds) k 0) place ∙ get_or-take kept ds (kept - 1) 0 (omega (arith, before)) in
    let joined : take j (take kept ds) ++ drop j (take kept ds) ≡ take kept ds = take-append-drop j (take kept ds) in
    record {
      rest = digits_value (drop j (take kept ds));
      sum =
          sym (ap digits_value joined) ∙ value_split (take j (take kept ds)) (drop j (take kept ds))
          ∙ ap (λ l. digits_value l * 10 ^ length (drop j (take kept ds)) + digits_value (drop j (take kept ds))) (take-take j kept ds (omega (arith, before)))
          ∙ ap (λ n. digits_value (take j ds) * 10 ^ n + digits_value (drop j (take kept ds))) long;
      some = value_some (drop j (take kept ds)) digits (omega (arith, long, before)) (ap is_zero_digit last ∙ z);
      below = subst (λ n. digits_value (drop j (take kept ds)) < 10 ^ n) long (value_below (drop j (take kept ds)) digits);
    }
