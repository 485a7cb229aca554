-- Numbers that grow digit by digit.
use Rattle.std.proofs.Common.{◌≡◌, ℕ, ◌+◌, ◌-◌, ◌*◌, ◌^◌, ◌<◌, ◌≤◌, true, false, eqb, cond, List, ◌++◌, length, map, take, get_or, reverse, Option, None, Some, sym, ap, ◌∙◌, arith, lit≤}
use Rattle.std.specs.Int.Digits.{number_from_digits_after}
use Rattle.std.specs.List.{prefix_len}
use Rattle.std.proofs.lemmas.Bool.Decides.{nat_tests}
use Rattle.std.proofs.lemmas.List.{length-reverse, reverse-append}
use Rattle.std.proofs.lemmas.List.Folds.{prefix_len-append}
use Rattle.std.proofs.lemmas.Int.Digits.{number_after_ge}
use Rattle.std.proofs.lemmas.Nat.{pow-add}
use Rattle.std.proofs.Math.Nat.{pow-le-pow_right, mul-le-mul_left}
use Rattle.cip_rational.specs.Range.{largest}
use Rattle.cip_rational.specs.Numeral.{digits_value, zeros_at_end, is_zero_digit}
use Rattle.cip_text.specs.Amounts.{capped}
use Rattle.cip_text.proofs.Amounts.{capped_none, capped_value, capped_over}
use Rattle.cip_text.proofs.DigitLists.{digit, after_more, after_part, after_split, first_both}

-- ---- a digit more

pub grow_over : (start : ℕ) (ds : List ℕ) (i v : ℕ) → i < length ds → v ≡ number_from_digits_after 10 start (map digit (take i ds)) → None ≡ capped (v * 10 + (get_or ds i 0 - 48))
    → None ≡ capped (number_from_digits_after 10 start (map digit ds))
grow_over start ds i v h e over =
    let m = after_more start ds i h in
    let p = after_part start ds (i + 1) in
    let o = capped_over _ over in
    sym (capped_none _ (omega (arith, m, p, o, e)))

pub record IsGrown (next value : ℕ) : Type 0 where
  pub small : next ≤ largest
  pub so_far : next ≡ value

pub grow_more : (start : ℕ) (ds : List ℕ) (i v next : ℕ) → i < length ds → v ≡ number_from_digits_after 10 start (map digit (take i ds)) → Some next ≡ capped (v * 10 + (get_or ds i 0 - 48))
    → IsGrown next (number_from_digits_after 10 start (map digit (take (i + 1) ds)))
grow_more start ds i v next h e s =
    let c = capped_value _ _ s in
    record { small = c.1; so_far = c.0 ∙ ap (λ n. n * 10 + (get_or ds i 0 - 48)) e ∙ sym (after_more start ds i h) }

-- ---- zeros behind a number

pub zeros_over : (value raised done zeros : ℕ) → done < zeros → raised ≡ value * 10 ^ done → None ≡ capped (raised * 10 + (48 - 48)) → None ≡ capped (value * 10 ^ zeros)
zeros_over value raised done zeros h e over =
    let o = capped_over _ over in
    let p : value * 10 ^ (done + 1) ≤ value * 10 ^ zeros = mul-le-mul_left value (pow-le-pow_right {n = 10} (lit≤ tt) (omega (arith, h))) in
    let q : value * 10 ^ (done + 1) ≡ value * (10 ^ done * 10) = ap (λ x. value * x) (pow-add 10 done 1) in
    sym (capped_none _ (omega (arith, o, p, q, e)))

pub zeros_more : (value raised done next : ℕ) → raised ≡ value * 10 ^ done → Some next ≡ capped (raised * 10 + (48 - 48)) → IsGrown next (value * 10 ^ (done + 1))
zeros_more value raised done next e s =
    let c = capped_value _ _ s in
    let q : value * 10 ^ (done + 1) ≡ value * (10 ^ done * 10) = ap (λ x. value * x) (pow-add 10 done 1) in
    record { small = c.1; so_far = omega (arith, c.0, q, e) }

-- ---- the first digits on both sides of a point

pub first_over : (xs ys : List ℕ) (n : ℕ) → length xs ≤ n → None ≡ capped (digits_value xs) → None ≡ capped (digits_value (take n (xs ++ ys)))
first_over xs ys n h over =
    let o = capped_over _ over in
    let e : digits_value (take n (xs ++ ys)) ≡ number_from_digits_after 10 (digits_value xs) (map digit (take (n - length xs) ys)) =
    ap digits_value (first_both xs ys n h) ∙ after_split 0 xs (take (n - length xs) ys) in
    let g = number_after_ge 10 (digits_value xs) (map digit (take (n - length xs) ys)) (omega arith) in
    sym (capped_none _ (omega (arith, o, e, g)))

pub first_some : (xs ys : List ℕ) (n start : ℕ) (r : Option ℕ) → length xs ≤ n → Some start ≡ capped (digits_value xs)
    → r ≡ capped (number_from_digits_after 10 start (map digit (take (n - length xs) ys))) → r ≡ capped (digits_value (take n (xs ++ ys)))
first_some xs ys n start r h s e =
    let c = capped_value _ _ s in
    let v : digits_value (take n (xs ++ ys)) ≡ number_from_digits_after 10 (digits_value xs) (map digit (take (n - length xs) ys)) =
    ap digits_value (first_both xs ys n h) ∙ after_split 0 xs (take (n - length xs) ys) in
    e ∙ ap (λ m. capped (number_from_digits_after 10 m (map digit (take (n - length xs) ys)))) c.0 ∙ ap capped (sym v)

-- ---- zeros at the end of two lists

zeros_join : (xs ys : List ℕ) → zeros_at_end (xs ++ ys) ≡ cond (eqb (prefix_len is_zero_digit (reverse ys)) (length (reverse ys))) (length (reverse ys) + zeros_at_end xs) (zeros_at_end ys)
zeros_join xs ys = ap (prefix_len is_zero_digit) (reverse-append xs ys) ∙ prefix_len-append is_zero_digit (reverse ys) (reverse xs)

pub zeros_behind : (xs ys : List ℕ) → zeros_at_end ys < length ys → zeros_at_end ys ≡ zeros_at_end (xs ++ ys)
zeros_behind xs ys h =
    let long = length-reverse ys in
    let a : ℕ = prefix_len is_zero_digit (reverse ys) in
    let ne : prefix_len is_zero_digit (reverse ys) ≡ length (reverse ys) → ⊥ = λ e. absurd (omega (arith, e, long, h)) in
    let test : eqb (prefix_len is_zero_digit (reverse ys)) (length (reverse ys)) ≡ false = differ _ _ ne in
    sym (zeros_join xs ys ∙ ap (λ b. cond b (length (reverse ys) + zeros_at_end xs) (zeros_at_end ys)) test)
  where
    differ : (a b : ℕ) → (a ≡ b → ⊥) → eqb a b ≡ false
    differ a b ne = grind (arith, nat_tests)

pub zeros_through : (xs ys : List ℕ) → zeros_at_end ys ≤ length ys → length ys ≤ zeros_at_end ys → zeros_at_end ys + zeros_at_end xs ≡ zeros_at_end (xs ++ ys)
zeros_through xs ys g h =
    let long = length-reverse ys in
    let e : prefix_len is_zero_digit (reverse ys) ≡ length (reverse ys) = omega (arith, long, h, g) in
    let test : eqb (prefix_len is_zero_digit (reverse ys)) (length (reverse ys)) ≡ true = Rattle.std.proofs.Common.eq-eqb _ _ e in
    sym (zeros_join xs ys ∙ ap (λ b. cond b (length (reverse ys) + zeros_at_end xs) (zeros_at_end ys)) test ∙ ap (λ n. n + zeros_at_end xs) (sym e))
