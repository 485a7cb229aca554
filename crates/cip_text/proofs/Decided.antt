-- What a size and a power of ten come to.
use Rattle.std.proofs.Common.{◌≡◌, ℕ, zero, suc, ◌+◌, ◌-◌, ◌*◌, ◌^◌, ◌<◌, ◌≤◌, Bool, true, false, ◌&&◌, leb, cond, List, ◌++◌, length, take, get_or, refl, sym, ap, subst, ◌∙◌, arith, leb-true, leb-false, lit≤, length-append, Some, None}
use Rattle.std.specs.Prelude.{nat_le, nat_lt}
use Rattle.std.specs.Char.{is_ascii_digit}
use Rattle.std.specs.List.{list_all}
use Rattle.std.proofs.lemmas.Bool.{le-leb, lt-leb}
use Rattle.std.proofs.lemmas.List.{length-take-le, get_or-take}
use Rattle.std.proofs.Math.Nat.{pow-le-pow_right, le-mul_of_pos_right, mul-le-mul_right}
use Rattle.cip_rational.specs.Range.{largest}
use Rattle.cip_rational.specs.Numeral.{Exact, Huge, TooFine, scaled, whole_numeral, decimal_numeral, digits_value, size_of, zeros_at_end, is_zero_digit}
use Rattle.cip_rational.proofs.InRange.{power_small}
use Rattle.cip_text.specs.Amounts.{capped}
use Rattle.cip_text.proofs.Amounts.{capped_value, capped_over, power_over, power_some, product_over, product_far}
use Rattle.cip_text.proofs.DigitLists.{IsCut, cut_digits, value_below, value_some, digits_take, last_kept}

pub scaled_up : (negative : Bool) (size up down : ℕ) → 0 < size → down ≤ up → scaled negative size up down ≡ whole_numeral negative (size * 10 ^ (up - down))
scaled_up negative zero up down some h = absurd (omega arith)
scaled_up negative (suc n) up down some h = ap (λ b. cond b (whole_numeral negative (suc n * 10 ^ (up - down))) (decimal_numeral negative (suc n) (down - up))) (le-leb down up h)

pub scaled_down : (negative : Bool) (size up down : ℕ) → 0 < size → up < down → scaled negative size up down ≡ decimal_numeral negative size (down - up)
scaled_down negative zero up down some h = absurd (omega arith)
scaled_down negative (suc n) up down some h = ap (λ b. cond b (whole_numeral negative (suc n * 10 ^ (up - down))) (decimal_numeral negative (suc n) (down - up))) (lt-leb down up h)

pub whole_huge : (negative : Bool) (n : ℕ) → largest < n → whole_numeral negative n ≡ Huge negative
whole_huge negative n h = ap (λ b. cond b (Exact negative n 1) (Huge negative)) (lt-leb n largest h)

decimal_by : (negative : Bool) (size places : ℕ) (a b : Bool) → nat_lt (largest * 10 ^ places) size ≡ a → (nat_le size largest && nat_le places 38) ≡ b
    → decimal_numeral negative size places ≡ cond a (Huge negative) (cond b (Exact negative size (10 ^ places)) TooFine)
decimal_by negative size places a b p q = ap (λ s. cond s (Huge negative) (cond (nat_le size largest && nat_le places 38) (Exact negative size (10 ^ places)) TooFine)) p ∙ ap (λ t. cond a (Huge negative) (cond t (Exact negative size (10 ^ places)) TooFine)) q

small_product : (size places : ℕ) → size ≤ largest → nat_lt (largest * 10 ^ places) size ≡ false
small_product size places h =
    let p : largest ≤ largest * 10 ^ places = le-mul_of_pos_right largest (power_some places) in
    lt-leb (suc (largest * 10 ^ places)) size (omega (arith, p, h))

pub decimal_exact : (negative : Bool) (size places : ℕ) → size ≤ largest → places ≤ 38 → decimal_numeral negative size places ≡ Exact negative size (10 ^ places)
decimal_exact negative size places h k =
    decimal_by negative size places false true (small_product size places h)
    (ap (λ b. b && nat_le places 38) (le-leb size largest h) ∙ le-leb places 38 k)

pub decimal_fine : (negative : Bool) (size places : ℕ) → size ≤ largest → 38 < places → decimal_numeral negative size places ≡ TooFine
decimal_fine negative size places h k =
    decimal_by negative size places false false (small_product size places h)
    (ap (λ b. b && nat_le places 38) (le-leb size largest h) ∙ lt-leb places 38 k)

pub decimal_long : (negative : Bool) (size places : ℕ) → largest < size → size ≤ largest * 10 ^ places → decimal_numeral negative size places ≡ TooFine
decimal_long negative size places h k =
    decimal_by negative size places false false (lt-leb (suc (largest * 10 ^ places)) size (omega (arith, k)))
    (ap (λ b. b && nat_le places 38) (lt-leb size largest h))

pub decimal_huge : (negative : Bool) (size places : ℕ) → largest * 10 ^ places < size → decimal_numeral negative size places ≡ Huge negative
decimal_huge negative size places h =
    ap (λ s. cond s (Huge negative) (cond (nat_le size largest && nat_le places 38) (Exact negative size (10 ^ places)) TooFine)) (le-leb (suc (largest * 10 ^ places)) size (omega (arith, h)))

-- ---- long numbers: what stands before the point decides

cut_small : (n head power : ℕ) → IsCut n head power → head < largest → n ≤ largest * power
cut_small n head power c h =
    let p : (head + 1) * power ≤ largest * power = mul-le-mul_right power (omega (arith, h)) in
    omega (arith, c.sum, c.below, p)

cut_large : (n head power : ℕ) → IsCut n head power → largest ≤ head → largest * power < n
cut_large n head power c h =
    let p : largest * power ≤ head * power = mul-le-mul_right power h in
    omega (arith, c.sum, c.some, p)

module _ (negative : Bool) (ds : List ℕ) (kept up down : ℕ) (digits : list_all is_ascii_digit ds ≡ true) (kept_is : kept + zeros_at_end ds ≡ length ds) where
  pub front_is : size_of ds ≡ digits_value (take kept ds)
  front_is = let e : length ds - zeros_at_end ds ≡ kept = omega (arith, kept_is) in ap (λ k. digits_value (take k ds)) e

  pub kept_some : largest < size_of ds → 0 < kept
  kept_some over = go (leb 1 kept) refl
    where
      go : (b : Bool) → leb 1 kept ≡ b → 0 < kept
      go true e = leb-true 1 kept e
      go false e =
          let none : kept ≡ 0 = omega (arith, leb-false 1 kept e) in
          let zero_ : size_of ds ≡ 0 = front_is ∙ ap (λ k. digits_value (take k ds)) none in
          absurd (omega (arith, over, zero_))

  within : kept ≤ length ds
  within = omega (arith, kept_is)

  front_long : length (take kept ds) ≡ kept
  front_long = length-take-le kept ds within

  pub size_some : 0 < kept → 0 < size_of ds
  size_some some =
      let last = last_kept ds kept kept_is some in
      let place : length (take kept ds) - 1 ≡ kept - 1 = ap (λ n. n - 1) front_long in
      let read : get_or (take kept ds) (length (take kept ds) - 1) 0 ≡ get_or ds (kept - 1) 0 =
      ap (λ k. get_or (take kept ds) k 0) place ∙ get_or-take kept ds (kept - 1) 0 (omega (arith, some)) in
      subst (λ n. 0 < n) (sym front_is) (value_some (take kept ds) (digits_take kept ds digits) (omega (arith, some, front_long)) (ap is_zero_digit read ∙ last))

  size_below : size_of ds < 10 ^ kept
  size_below = subst (λ n. n < 10 ^ kept) (sym front_is) (subst (λ n. digits_value (take kept ds) < 10 ^ n) front_long (value_below (take kept ds) (digits_take kept ds digits)))

  pub size_none : kept ≡ 0 → scaled negative (size_of ds) up down ≡ Exact false 0 1
  size_none e = ap (λ n. scaled negative n up down) (front_is ∙ ap (λ k. digits_value (take k ds)) e)

  -- a number of at most so many digits, divided by that power of ten, is below 1
  pub fraction_fine : largest < size_of ds → up + kept ≤ down → 0 < kept → scaled negative (size_of ds) up down ≡ TooFine
  fraction_fine over h some =
      let p : 10 ^ kept ≤ 10 ^ (down - up) = pow-le-pow_right {n = 10} (lit≤ tt) (omega (arith, h)) in
      let q : 1 * 10 ^ (down - up) ≤ largest * 10 ^ (down - up) = mul-le-mul_right (10 ^ (down - up)) (lit≤ tt) in
      scaled_down negative (size_of ds) up down (size_some some) (omega (arith, h, some))
      ∙ decimal_long negative (size_of ds) (down - up) over (omega (arith, size_below, p, q))

  pub far_fine : up + kept ≤ down → up + 38 < down → 0 < kept → scaled negative (size_of ds) up down ≡ TooFine
  far_fine h far some = go (leb (size_of ds) largest) refl
    where
      go : (b : Bool) → leb (size_of ds) largest ≡ b → scaled negative (size_of ds) up down ≡ TooFine
      go true e =
          scaled_down negative (size_of ds) up down (size_some some) (omega (arith, far))
          ∙ decimal_fine negative (size_of ds) (down - up) (leb-true _ _ e) (omega (arith, far))
      go false e = fraction_fine (leb-false _ _ e) h some

  pub far_huge : down + 38 < up → 0 < kept → scaled negative (size_of ds) up down ≡ Huge negative
  far_huge far some =
      scaled_up negative (size_of ds) up down (size_some some) (omega (arith, far))
      ∙ whole_huge negative _ (product_far (size_of ds) (up - down) (size_some some) (omega (arith, far)))

  -- a long number: its digits before the point
  cut : down - up < kept → up < down → IsCut (size_of ds) (digits_value (take (kept - (down - up)) ds)) (10 ^ (down - up))
  cut h apart =
      let back : kept - (kept - (down - up)) ≡ down - up = omega (arith, h) in
      subst (λ n. IsCut n (digits_value (take (kept - (down - up)) ds)) (10 ^ (down - up))) (sym front_is)
      (subst (λ k. IsCut (digits_value (take kept ds)) (digits_value (take (kept - (down - up)) ds)) (10 ^ k)) back
      (cut_digits ds kept (kept - (down - up)) digits within (omega (arith, h, apart)) (last_kept ds kept kept_is (omega (arith, h)))))

  pub long_fine : largest < size_of ds → up < down → down - up < kept → digits_value (take (kept - (down - up)) ds) < largest → scaled negative (size_of ds) up down ≡ TooFine
  long_fine over apart h head =
      scaled_down negative (size_of ds) up down (omega (arith, over)) apart
      ∙ decimal_long negative (size_of ds) (down - up) over (cut_small _ _ _ (cut h apart) head)

  pub long_huge : up < down → down - up < kept → largest ≤ digits_value (take (kept - (down - up)) ds) → scaled negative (size_of ds) up down ≡ Huge negative
  long_huge apart h head =
      scaled_down negative (size_of ds) up down (size_some (omega (arith, h))) apart
      ∙ decimal_huge negative (size_of ds) (down - up) (cut_large _ _ _ (cut h apart) head)

  pub whole_long : largest < size_of ds → down ≤ up → scaled negative (size_of ds) up down ≡ Huge negative
  whole_long over h =
      scaled_up negative (size_of ds) up down (omega (arith, over)) h ∙ whole_huge negative _ (product_over (size_of ds) (up - down) over)

-- ---- the steps of the code

module _ (negative : Bool) (xs ys : List ℕ) (zeros : ℕ) (digits : list_all is_ascii_digit (xs ++ ys) ≡ true) (zeros_are : zeros ≡ zeros_at_end (xs ++ ys)) (some : zeros < length xs + length ys) where
  kept_are : length xs + length ys - zeros + zeros_at_end (xs ++ ys) ≡ length (xs ++ ys)
  kept_are = let long : length (xs ++ ys) ≡ length xs + length ys = length-append xs ys in omega (arith, long, zeros_are, some)

  pub some_size : (size : ℕ) → Some size ≡ capped (digits_value (take (length xs + length ys - zeros) (xs ++ ys))) → 0 < size
  some_size size e =
      let c = capped_value _ _ e in
      let p : 0 < size_of (xs ++ ys) = size_some negative (xs ++ ys) (length xs + length ys - zeros) 0 0 digits kept_are (omega (arith, some)) in
      let f : size_of (xs ++ ys) ≡ digits_value (take (length xs + length ys - zeros) (xs ++ ys)) = front_is negative (xs ++ ys) (length xs + length ys - zeros) 0 0 digits kept_are in
      omega (arith, c.0, p, f)

  pub far_down : (amount : ℕ) → length xs + length ys < 2 ^ 64 → largest < amount → TooFine ≡ scaled negative (size_of (xs ++ ys)) (0 + zeros_at_end (xs ++ ys)) (amount + length ys)
  far_down amount short big =
      sym (far_fine negative (xs ++ ys) (length xs + length ys - zeros) (0 + zeros_at_end (xs ++ ys)) (amount + length ys) digits kept_are
      (omega (arith, zeros_are, some, short, big)) (omega (arith, zeros_are, some, short, big)) (omega (arith, some)))

  pub far_up : (amount : ℕ) → length xs + length ys < 2 ^ 64 → largest < amount → Huge negative ≡ scaled negative (size_of (xs ++ ys)) (amount + zeros_at_end (xs ++ ys)) (0 + length ys)
  far_up amount short big =
      sym (far_huge negative (xs ++ ys) (length xs + length ys - zeros) (amount + zeros_at_end (xs ++ ys)) (0 + length ys) digits kept_are
      (omega (arith, zeros_are, some, short, big)) (omega (arith, some)))

pub divided_fine : (negative : Bool) (size places : ℕ) → size ≤ largest → None ≡ capped (1 * 10 ^ places) → TooFine ≡ decimal_numeral negative size places
divided_fine negative size places small over = go (leb places 38) refl
  where
    go : (b : Bool) → leb places 38 ≡ b → TooFine ≡ decimal_numeral negative size places
    go true e = absurd (omega (arith, power_small places (leb-true places 38 e), capped_over _ over))
    go false e = sym (decimal_fine negative size places small (leb-false places 38 e))

pub divided_exact : (negative : Bool) (size places below : ℕ) → size ≤ largest → Some below ≡ capped (1 * 10 ^ places) → Exact negative size below ≡ decimal_numeral negative size places
divided_exact negative size places below small told = go (leb places 38) refl
  where
    c : (below ≡ 1 * 10 ^ places) × (below ≤ largest)
    c = capped_value _ _ told

    go : (b : Bool) → leb places 38 ≡ b → Exact negative size below ≡ decimal_numeral negative size places
    go true e =
        let same : below ≡ 10 ^ places = omega (arith, c.0) in
        ap (Exact negative size) same ∙ sym (decimal_exact negative size places small (leb-true places 38 e))
    go false e = absurd (omega (arith, power_over places (leb-false places 38 e), c.0, c.1))
