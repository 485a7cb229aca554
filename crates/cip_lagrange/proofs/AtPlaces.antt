-- What stands in a list at a place.
use Rattle.std.proofs.Common.{◌≡◌, ◌⊎◌, inl, inr, ℕ, zero, suc, ◌<◌, List, [], ◌∷◌, ◌++◌, length, Some, refl, ap, subst, arith, slice_get}
use Rattle.std.specs.Prelude.{slice_set, All}
use Rattle.std.specs.List.{AllZip, AllByRecursion}
use Rattle.std.proofs.lemmas.Option.{none-some, same_Some}
use Rattle.std.proofs.lemmas.List.Elements.{recursion_from_All}

-- ---- after a write

pub get-set_same : {X : Type 0} (xs : List X) (i : ℕ) (x : X) → i < length xs
    → slice_get (slice_set xs i x) i ≡ Some x
get-set_same [] i x h = absurd (omega (arith, h))
get-set_same (y ∷ ys) zero x h = refl
get-set_same (y ∷ ys) (suc i) x h = get-set_same ys i x (omega (arith, h))

pub get-set_other : {X : Type 0} (xs : List X) (i j : ℕ) (x : X) → (i ≡ j → ⊥)
    → slice_get (slice_set xs i x) j ≡ slice_get xs j
get-set_other [] i j x h = refl
get-set_other (y ∷ ys) zero zero x h = absurd (h refl)
get-set_other (y ∷ ys) zero (suc j) x h = refl
get-set_other (y ∷ ys) (suc i) zero x h = refl
get-set_other (y ∷ ys) (suc i) (suc j) x h = get-set_other ys i j x (λ e. h (ap suc e))

-- ---- facts at each place

pub all_at : {X : Type 0} (P : X → Type 0) (xs : List X) → ((k : ℕ) (x : X) → slice_get xs k ≡ Some x → P x)
    → AllByRecursion P xs
all_at P [] f = tt
all_at P (x ∷ xs) f = (f 0 x refl, all_at P xs (λ k. f (suc k)))

pub at_place : {X : Type 0} (P : X → Type 0) (xs : List X) (k : ℕ) (x : X) → AllByRecursion P xs
    → slice_get xs k ≡ Some x → P x
at_place P [] k x h e = absurd (none-some x e)
at_place P (y ∷ ys) zero x h e = subst P (same_Some y x e) h.0
at_place P (y ∷ ys) (suc k) x h e = at_place P ys k x h.1 e

pub all_at_place : {X : Type 0} (P : X → Type 0) (xs : List X) (k : ℕ) (x : X) → All P xs → slice_get xs k ≡ Some x
    → P x
all_at_place P xs k x h e = at_place P xs k x (recursion_from_All P xs h) e

pub zip_at : {A B : Type 0} (R : A → B → Type 0) (xs : List A) (ys : List B) → length xs ≡ length ys
    → ((k : ℕ) (x : A) (y : B) → slice_get xs k ≡ Some x → slice_get ys k ≡ Some y → R x y) → AllZip R xs ys
zip_at R [] [] e f = tt
zip_at R [] (y ∷ ys) e f = absurd (omega (arith, e))
zip_at R (x ∷ xs) [] e f = absurd (omega (arith, e))
zip_at R (x ∷ xs) (y ∷ ys) e f = (f 0 x y refl refl, zip_at R xs ys (omega (arith, e)) (λ k. f (suc k)))

-- what stands in a list with one entry more
pub get_push : {X : Type 0} (xs : List X) (y x : X) (k n : ℕ) → length xs ≡ n
    → slice_get (xs ++ y ∷ []) k ≡ Some x → (slice_get xs k ≡ Some x) ⊎ ((k ≡ n) × (y ≡ x))
get_push [] y x zero n l e = inr (l, same_Some y x e)
get_push [] y x (suc k) n l e = absurd (none-some x e)
get_push (z ∷ zs) y x zero n l e = inl e
get_push (z ∷ zs) y x (suc k) zero l e = absurd (omega (arith, l))
get_push (z ∷ zs) y x (suc k) (suc n) l e = next (get_push zs y x k n (omega (arith, l)) e)
  where
    next : (slice_get zs k ≡ Some x) ⊎ ((k ≡ n) × (y ≡ x)) → (slice_get zs k ≡ Some x) ⊎ ((suc k ≡ suc n) × (y ≡ x))
    next (inl h) = inl h
    next (inr h) = inr (ap suc h.0, h.1)
