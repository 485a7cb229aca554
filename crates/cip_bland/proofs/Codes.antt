-- Fewer states than 4 to the number of variables: each stands for a number below that.
use Rattle.std.proofs.Common.{◌≡◌, ℕ, zero, suc, ◌+◌, ◌*◌, ◌^◌, ◌<◌, ◌≤◌, true, false, List, [], ◌∷◌, length, Option, None, Some, refl, sym, ap, ◌∙◌, subst, inl, inr, arith, eqb}
use Rattle.std.specs.List.{AllByRecursion, IsDistinct, list_any}
use Rattle.std.proofs.lemmas.Bool.{true≢false, cases_eq, ne_eqb, eqb-true, or_cases}
use Rattle.std.proofs.lemmas.Map.Keys.{IsDistinct-cons}
use Rattle.std.proofs.lemmas.Map.Steps.{length-le_from_distinct_below}
use Rattle.cip_bland.specs.declared.moves.Stand.{Stand}
use Rattle.cip_bland.specs.declared.moves.Stand.TheVariants.{Low, High, Zero}

-- ---- a number for where the first n variables stand

abbrev digit : Option Stand → ℕ
digit None = 0
digit (Some Low) = 1
digit (Some High) = 2
digit (Some Zero) = 3

digit_below : (s : Option Stand) → digit s < 4
digit_below None = omega arith
digit_below (Some Low) = omega arith
digit_below (Some High) = omega arith
digit_below (Some Zero) = omega arith

abbrev stand_back : ℕ → Option Stand
stand_back zero = None
stand_back (suc zero) = Some Low
stand_back (suc (suc zero)) = Some High
stand_back (suc (suc (suc n))) = Some Zero

digit_back : (s : Option Stand) → stand_back (digit s) ≡ s
digit_back None = refl
digit_back (Some Low) = refl
digit_back (Some High) = refl
digit_back (Some Zero) = refl

same_digit : (s t : Option Stand) → digit s ≡ digit t → s ≡ t
same_digit s t e = sym (digit_back s) ∙ ap stand_back e ∙ digit_back t

abbrev pub code : ℕ → (ℕ → Option Stand) → ℕ
code zero f = 0
code (suc n) f = 4 * code n f + digit (f n)

pub code_below : (n : ℕ) (f : ℕ → Option Stand) → code n f < 4 ^ n
code_below zero f = omega arith
code_below (suc n) f =
    let e : 4 ^ suc n ≡ 4 * 4 ^ n = omega arith in
    omega (arith, e, code_below n f, digit_below (f n))

digits_apart : (a b x y : ℕ) → x < 4 → y < 4 → 4 * a + x ≡ 4 * b + y → (a ≡ b) × (x ≡ y)
digits_apart a b x y lx ly e = (omega (arith, lx, ly, e), omega (arith, lx, ly, e))

pub same_code : (n : ℕ) (f g : ℕ → Option Stand) → code n f ≡ code n g → (k : ℕ) → k < n → f k ≡ g k
same_code zero f g e k l = absurd (omega (arith, l))
same_code (suc n) f g e k l =
    let parts = digits_apart (code n f) (code n g) (digit (f n)) (digit (g n)) (digit_below (f n)) (digit_below (g n)) e in
    elim (cases_eq k n) [
      | inl same ↦ subst (λ u. f u ≡ g u) (sym same) (same_digit (f n) (g n) parts.1)
      | inr ne ↦ same_code n f g parts.0 k (omega (arith, l, ne))
    ]

-- ---- numbers of which no two are the same

-- the numbers of n, n - 1, .., 0
abbrev numbers : (ℕ → ℕ) → ℕ → List ℕ
numbers g zero = g 0 ∷ []
numbers g (suc n) = g (suc n) ∷ numbers g n

length-numbers : (g : ℕ → ℕ) (n : ℕ) → length (numbers g n) ≡ suc n
length-numbers g zero = refl
length-numbers g (suc n) = ap suc (length-numbers g n)

apart : (g : ℕ → ℕ) (x n : ℕ) → ((i : ℕ) → i ≤ n → ¬ (x ≡ g i)) → AllByRecursion (λ y. eqb x y ≡ false) (numbers g n)
apart g x zero h = (ne_eqb x (g 0) (h 0 (omega arith)), tt)
apart g x (suc n) h = (ne_eqb x (g (suc n)) (h (suc n) (omega arith)), apart g x n (λ i l. h i (omega (arith, l))))

distinct : (g : ℕ → ℕ) (n : ℕ) → ((i j : ℕ) → i < j → j ≤ n → ¬ (g i ≡ g j)) → IsDistinct eqb (numbers g n)
unfolding IsDistinct
distinct g zero h = IsDistinct-cons eqb (g 0) [] tt tt
distinct g (suc n) h =
    IsDistinct-cons eqb (g (suc n)) (numbers g n) (apart g (g (suc n)) n (λ i l e. h i (suc n) (omega (arith, l)) (omega arith) (sym e))) (distinct g n (λ i j l m. h i j l (omega (arith, m))))

all_below : (g : ℕ → ℕ) (m n q : ℕ) → ((i : ℕ) → i ≤ n → g i < m) → list_any (eqb q) (numbers g n) ≡ true → q < m
all_below g m zero q h e = elim (or_cases (eqb q (g 0)) false e) [
  | inl t ↦ omega (arith, eqb-true q (g 0) t, h 0 (omega arith))
  | inr f ↦ absurd (true≢false (sym f))
]
all_below g m (suc n) q h e = elim (or_cases (eqb q (g (suc n))) (list_any (eqb q) (numbers g n)) e) [
  | inl t ↦ omega (arith, eqb-true q (g (suc n)) t, h (suc n) (omega arith))
  | inr f ↦ all_below g m n q (λ i l. h i (omega (arith, l))) f
]

-- n + 1 numbers below m, no two of them the same
pub few_numbers : (g : ℕ → ℕ) (m n : ℕ) → ((i : ℕ) → i ≤ n → g i < m) → ((i j : ℕ) → i < j → j ≤ n → ¬ (g i ≡ g j)) → n < m
few_numbers g m n below h =
    let l : length (numbers g n) ≤ m = length-le_from_distinct_below (numbers g n) m (distinct g n h) (λ q e. all_below g m n q below e) in
    omega (arith, l, length-numbers g n)
