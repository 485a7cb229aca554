-- Lemmas on `NumberText`.
use Rattle.std.specs.Prelude.{ℕ, zero, suc, ◌+◌, ◌-◌, ◌/◌, ◌%◌, ◌^◌, ◌<◌, ◌≤◌, List, [], ◌∷◌, ◌++◌, map, All, length, ℤ, pos, negsuc, unsigned_abs, ◌≡◌, ◌≢◌, ◌⊎◌, refl}
use Rattle.std.proofs.Common.{sym, ap, ◌∙◌, arith, inl, inr, lit≤}
use Rattle.std.specs.Int.Digits.{digits_of, number_from_digits}
use Rattle.std.specs.Fmt.{decimal, signed_decimal}
use Rattle.std.specs.List.{AllByRecursion}
use Rattle.std.proofs.lemmas.Int.Digits.{digits_of_step, number_digits_of, all_below_base_digits_of}
use Rattle.std.proofs.lemmas.Fmt.{AppendsLastDigit, decimal_from_appends_wide}
use Rattle.std.proofs.lemmas.List.Elements.{All-from_recursion}
use Rattle.cip_rational.specs.Rational.{ℚ, numerator, denominator}
use Rattle.cip_rational.proofs.Rational.Lowest.{denominator-pos, same_terms}
use Rattle.cip_rational.specs.NumberText.{natural_text, integer_text, denominator_text, fraction_text}

-- ---- what a text gives back

-- the number of a text of digits
natural_of : List ℕ → ℕ
natural_of text = number_from_digits 10 (map (λ c. c - 48) text)

back : (ds : List ℕ) → map (λ c. c - 48) (map (λ d. 48 + d) ds) ≡ ds
back [] = refl
back (d ∷ ds) =
    let e : 48 + d - 48 ≡ d = omega arith in
    ap (λ n. n ∷ map (λ c. c - 48) (map (λ d. 48 + d) ds)) e ∙ ap (λ l. d ∷ l) (back ds)

natural_of_text : (n : ℕ) → natural_of (natural_text n) ≡ n
unfolding natural_of
natural_of_text zero = refl
natural_of_text (suc n) = ap (number_from_digits 10) (back (digits_of 10 (suc n))) ∙ number_digits_of 10 (suc n) (lit≤ tt)

pub natural_text_injective : (m n : ℕ) → natural_text m ≡ natural_text n → m ≡ n
natural_text_injective m n e = sym (natural_of_text m) ∙ ap natural_of e ∙ natural_of_text n

-- ---- the bytes

IsDigit : ℕ → Type 0
IsDigit b = (48 ≤ b) × (b ≤ 57)

glyphs : (ds : List ℕ) → AllByRecursion (λ d. d < 10) ds → AllByRecursion IsDigit (map (λ d. 48 + d) ds)
unfolding IsDigit
glyphs [] h = h
glyphs (d ∷ ds) h = ((omega (arith, h.0), omega (arith, h.0)), glyphs ds h.1)

natural_text_digits : (n : ℕ) → AllByRecursion IsDigit (natural_text n)
unfolding IsDigit
natural_text_digits zero = ((lit≤ tt, lit≤ tt), tt)
natural_text_digits (suc n) = glyphs (digits_of 10 (suc n)) (all_below_base_digits_of 10 (suc n) (lit≤ tt))

-- a digit, `-` or `/`
abbrev pub IsFractionByte : ℕ → Type 0
IsFractionByte b = ((48 ≤ b) × (b ≤ 57)) ⊎ ((b ≡ 45) ⊎ (b ≡ 47))

digits_plain : (bs : List ℕ) → AllByRecursion IsDigit bs → AllByRecursion IsFractionByte bs
unfolding IsDigit
digits_plain [] h = h
digits_plain (b ∷ bs) h = (inl h.0, digits_plain bs h.1)

both_plain : (cs bs : List ℕ) → AllByRecursion IsFractionByte cs → AllByRecursion IsFractionByte bs → AllByRecursion IsFractionByte (cs ++ bs)
both_plain [] bs h k = k
both_plain (a ∷ cs) bs h k = (h.0, both_plain cs bs h.1 k)

integer_text_plain : (z : ℤ) → AllByRecursion IsFractionByte (integer_text z)
integer_text_plain (pos n) = digits_plain (natural_text n) (natural_text_digits n)
integer_text_plain (negsuc n) = (inr (inl refl), digits_plain (natural_text (suc n)) (natural_text_digits (suc n)))

denominator_text_plain : (d : ℕ) → AllByRecursion IsFractionByte (denominator_text d)
denominator_text_plain zero = tt
denominator_text_plain (suc zero) = tt
denominator_text_plain (suc (suc n)) = (inr (inr refl), digits_plain (natural_text (suc (suc n))) (natural_text_digits (suc (suc n))))

pub fraction_text_plain : (x : ℚ) → All IsFractionByte (fraction_text x)
unfolding fraction_text
fraction_text_plain x =
    All-from_recursion IsFractionByte (integer_text (numerator x) ++ denominator_text (denominator x))
    (both_plain _ _ (integer_text_plain (numerator x)) (denominator_text_plain (denominator x)))

-- ---- the text determines the number

-- no `/` comes before the denominator
HasNoSlash : List ℕ → Type 0
HasNoSlash bs = AllByRecursion (λ b. b ≢ 47) bs

digits_no_slash : (bs : List ℕ) → AllByRecursion IsDigit bs → HasNoSlash bs
unfolding IsDigit HasNoSlash
digits_no_slash [] h = h
digits_no_slash (b ∷ bs) h = (λ e. omega (arith, e, h.0), digits_no_slash bs h.1)

integer_no_slash : (z : ℤ) → HasNoSlash (integer_text z)
unfolding HasNoSlash
integer_no_slash (pos n) = digits_no_slash (natural_text n) (natural_text_digits n)
integer_no_slash (negsuc n) = (λ e. omega (arith, e), digits_no_slash (natural_text (suc n)) (natural_text_digits (suc n)))

-- what comes after the integer
IsEnd : List ℕ → Type 0
IsEnd xs = (xs ≡ []) ⊎ ((rest : List ℕ) × (xs ≡ 47 ∷ rest))

denominator_end : (d : ℕ) → IsEnd (denominator_text d)
unfolding IsEnd
denominator_end zero = inl refl
denominator_end (suc zero) = inl refl
denominator_end (suc (suc n)) = inr (natural_text (suc (suc n)), refl)

no_end : (b : ℕ) (bs xs : List ℕ) → b ≢ 47 → IsEnd xs → xs ≡ b ∷ bs → ⊥
unfolding IsEnd
no_end b bs xs s (inl h) e = cc
no_end b bs xs s (inr (rest, h)) e = s (cc)

parted : (cs bs xs ys : List ℕ) → HasNoSlash cs → HasNoSlash bs → IsEnd xs → IsEnd ys → cs ++ xs ≡ bs ++ ys → (cs ≡ bs) × (xs ≡ ys)
unfolding HasNoSlash
parted [] [] xs ys p q r s e = (refl, e)
parted [] (b ∷ bs) xs ys p q r s e = absurd (no_end b (bs ++ ys) xs q.0 r e)
parted (a ∷ cs) [] xs ys p q r s e = absurd (no_end a (cs ++ xs) ys p.0 s (sym e))
parted (a ∷ cs) (b ∷ bs) xs ys p q r s e =
    let head : a ≡ b = cc in
    let tail : cs ++ xs ≡ bs ++ ys = cc in
    let t = parted cs bs xs ys p.1 q.1 r s tail in
    (ap (λ n. n ∷ cs) head ∙ ap (λ l. b ∷ l) t.0, t.1)

starts_low : (bs cs : List ℕ) → AllByRecursion IsDigit bs → bs ≡ 45 ∷ cs → ⊥
unfolding IsDigit
starts_low [] cs h e = cc
starts_low (b ∷ bs) cs h e = let f : b ≡ 45 = cc in omega (arith, f, h.0)

integer_text_injective : (y z : ℤ) → integer_text y ≡ integer_text z → y ≡ z
integer_text_injective (pos m) (pos n) e = ap pos (natural_text_injective m n e)
integer_text_injective (pos m) (negsuc n) e = absurd (starts_low (natural_text m) (natural_text (suc n)) (natural_text_digits m) e)
integer_text_injective (negsuc m) (pos n) e = absurd (starts_low (natural_text n) (natural_text (suc m)) (natural_text_digits n) (sym e))
integer_text_injective (negsuc m) (negsuc n) e =
    let f : natural_text (suc m) ≡ natural_text (suc n) = cc in
    let g : suc m ≡ suc n = natural_text_injective (suc m) (suc n) f in
    ap negsuc (omega arith)

denominator_text_injective : (c d : ℕ) → 0 < c → 0 < d → denominator_text c ≡ denominator_text d → c ≡ d
denominator_text_injective zero d p q e = absurd (omega arith)
denominator_text_injective (suc c) zero p q e = absurd (omega arith)
denominator_text_injective (suc zero) (suc zero) p q e = refl
denominator_text_injective (suc zero) (suc (suc d)) p q e = absurd (cc)
denominator_text_injective (suc (suc c)) (suc zero) p q e = absurd (cc)
denominator_text_injective (suc (suc c)) (suc (suc d)) p q e =
    natural_text_injective (suc (suc c)) (suc (suc d)) (cc)

pub fraction_text_injective : (x y : ℚ) → fraction_text x ≡ fraction_text y → x ≡ y
unfolding fraction_text
fraction_text_injective x y e =
    let t = parted (integer_text (numerator x)) (integer_text (numerator y)) _ _
    (integer_no_slash (numerator x)) (integer_no_slash (numerator y)) (denominator_end (denominator x)) (denominator_end (denominator y)) e in
    same_terms x y (integer_text_injective (numerator x) (numerator y) t.0)
    (denominator_text_injective (denominator x) (denominator y) (denominator-pos x) (denominator-pos y) t.1)

-- ---- std's words

natural_text_some : (n : ℕ) → 0 < n → natural_text n ≡ map (λ d. 48 + d) (digits_of 10 n)
natural_text_some zero p = absurd (omega arith)
natural_text_some (suc n) p = refl

map_push : (ds : List ℕ) (d : ℕ) → map (λ n. 48 + n) (ds ++ d ∷ []) ≡ map (λ n. 48 + n) ds ++ (48 + d) ∷ []
map_push [] d = refl
map_push (c ∷ ds) d = ap (λ l. (48 + c) ∷ l) (map_push ds d)

last_digit : (n : ℕ) → 0 < n → natural_text n ≡ map (λ d. 48 + d) (digits_of 10 (n / 10)) ++ (48 + n % 10) ∷ []
last_digit n p =
    natural_text_some n p ∙ ap (map (λ d. 48 + d)) (digits_of_step 10 n (lit≤ tt) p) ∙ map_push (digits_of 10 (n / 10)) (n % 10)

one_digit : (n : ℕ) → n < 10 → natural_text n ≡ (48 + n) ∷ []
one_digit zero h = refl
one_digit (suc n) h =
    let q : suc n / 10 ≡ 0 = omega arith in
    let r : suc n % 10 ≡ suc n = omega arith in
    last_digit (suc n) (omega arith) ∙ ap (λ m. map (λ d. 48 + d) (digits_of 10 m) ++ (48 + suc n % 10) ∷ []) q ∙ ap (λ m. (48 + m) ∷ []) r

more_digits : (n : ℕ) → 10 ≤ n → natural_text n ≡ natural_text (n / 10) ++ (48 + n % 10) ∷ []
more_digits n h =
    let p : 0 < n / 10 = omega arith in
    last_digit n (omega arith) ∙ ap (λ l. l ++ (48 + n % 10) ∷ []) (sym (natural_text_some (n / 10) p))

appends : AppendsLastDigit (λ k n. natural_text n)
appends = record { one = λ k n h. one_digit n h; more = λ k n h. more_digits n h }

pub natural_text_decimal : (n : ℕ) → n < 10 ^ 64 → natural_text n ≡ decimal n
natural_text_decimal n h = decimal_from_appends_wide (λ k n. natural_text n) appends (length (decimal n)) n h (omega arith)

pub integer_text_decimal : (z : ℤ) → unsigned_abs z < 10 ^ 64 → integer_text z ≡ signed_decimal z
integer_text_decimal (pos n) h = natural_text_decimal n h
integer_text_decimal (negsuc n) h = ap (λ l. 45 ∷ l) (natural_text_decimal (suc n) h)
