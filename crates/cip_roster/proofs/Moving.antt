-- Values that are moved behind a list, one after the other.
use Rattle.std.proofs.Common.{◌≡◌, ℕ, ◌-◌, ◌≤◌, List, [], ◌∷◌, ◌++◌, length, arith, sym, ◌∙◌, ap, append_assoc, append-nil, take_all, ◌+◌, Option, None, Some, count_by, cond, refl}
use Rattle.std.specs.Prelude.{is_some, slice_range}
use Rattle.std.proofs.lemmas.List.Sums.{sum_by-cons}

-- all of a list, as a range
pub whole_range : {A : Type 0} (xs : List A) (n : ℕ) → length xs ≤ n → slice_range xs 0 n ≡ xs
whole_range xs n within = take_all (n - 0) xs (omega (arith, within))

-- one more stands behind what was there
pub moved_one : {A : Type 0} (xs ys zs rest later : List A) (y : A) → rest ≡ y ∷ later → ys ≡ xs ++ y ∷ []
    → xs ++ rest ≡ zs → ys ++ later ≡ zs
moved_one xs ys zs rest later y split is so_far =
    ap (λ l. l ++ later) is ∙ append_assoc xs (y ∷ []) later ∙ ap (λ l. xs ++ l) (sym split) ∙ so_far

-- all stand there
pub moved_all : {A : Type 0} (xs firsts ends starts whole : List A) → ends ≡ [] → starts ≡ whole
    → xs ++ ends ≡ firsts ++ starts → xs ≡ firsts ++ whole
moved_all xs firsts ends starts whole none all so_far =
    sym (append-nil xs) ∙ ap (λ l. xs ++ l) (sym none) ∙ so_far ∙ ap (λ l. firsts ++ l) all

-- what counts of those that are there
pub counted_one : {A : Type 0} (rest later : List (Option A)) (x : A) → rest ≡ Some x ∷ later
    → count_by is_some rest ≡ 1 + count_by is_some later
counted_one rest later x split =
    ap (count_by is_some) split ∙ sum_by-cons (λ o. cond (is_some o) 1 0) (Some x) later

pub counted_none : {A : Type 0} (rest later : List (Option A)) → rest ≡ None ∷ later
    → count_by is_some rest ≡ 0 + count_by is_some later
counted_none rest later split =
    ap (count_by is_some) split ∙ sum_by-cons (λ o. cond (is_some o) 1 0) None later

-- nothing is there
pub none_there : {A : Type 0} (o : Option A) → ((x : A) → o ≡ Some x → ⊥) → o ≡ None
none_there None other = refl
none_there (Some x) other = absurd (other x refl)
