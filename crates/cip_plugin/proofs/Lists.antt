-- Places of lists behind a change.
use Rattle.std.proofs.Common.{◌≡◌, ℕ, zero, suc, List, [], ◌∷◌, ◌++◌, length, Some, set, sym, ap, refl}
use Rattle.std.specs.Prelude.{slice_get}
use Rattle.std.proofs.lemmas.Option.{same_Some}

-- what was set stands at its place
pub get_set_same : {A : Type 0} (xs : List A) (i : ℕ) (x y : A) → slice_get xs i ≡ Some x
    → slice_get (set xs i y) i ≡ Some y
get_set_same [] i x y was = cc
get_set_same (a ∷ xs) zero x y was = refl
get_set_same (a ∷ xs) (suc i) x y was = get_set_same xs i x y was

-- elsewhere nothing changes
pub get_set_other : {A : Type 0} (xs : List A) (i k : ℕ) (y : A) → (k ≡ i → ⊥)
    → slice_get (set xs i y) k ≡ slice_get xs k
get_set_other [] i k y other = refl
get_set_other (a ∷ xs) zero zero y other = absurd (other refl)
get_set_other (a ∷ xs) zero (suc k) y other = refl
get_set_other (a ∷ xs) (suc i) zero y other = refl
get_set_other (a ∷ xs) (suc i) (suc k) y other = get_set_other xs i k y (λ same. other (ap suc same))

-- setting what is there changes nothing
pub set_self : {A : Type 0} (xs : List A) (i : ℕ) (x : A) → slice_get xs i ≡ Some x → set xs i x ≡ xs
set_self [] i x was = refl
set_self {A = A} (a ∷ xs) zero x was = ap (λ (h : A). h ∷ xs) (sym (same_Some a x was))
set_self {A = A} (a ∷ xs) (suc i) x was = ap (λ (t : List A). a ∷ t) (set_self xs i x was)

-- what stands in front of something new
pub get_front : {A : Type 0} (xs ys : List A) (i : ℕ) (x : A) → slice_get xs i ≡ Some x
    → slice_get (xs ++ ys) i ≡ Some x
get_front [] ys i x was = cc
get_front (a ∷ xs) ys zero x was = was
get_front (a ∷ xs) ys (suc i) x was = get_front xs ys i x was

-- the last one
pub get_last : {A : Type 0} (xs : List A) (y : A) → slice_get (xs ++ y ∷ []) (length xs) ≡ Some y
get_last [] y = refl
get_last (a ∷ xs) y = get_last xs y

-- where a list with one more ends, there is what the list has, or the last one
pub get_pushed : {A : Type 0} (xs : List A) (y x : A) (i : ℕ) → slice_get (xs ++ y ∷ []) i ≡ Some x
    → (i ≡ length xs → ⊥) → slice_get xs i ≡ Some x
get_pushed [] y x zero is other = absurd (other refl)
get_pushed [] y x (suc i) is other = cc
get_pushed (a ∷ xs) y x zero is other = is
get_pushed (a ∷ xs) y x (suc i) is other = get_pushed xs y x i is (λ same. other (ap suc same))
