-- What a function says of items and their places.
use Rattle.std.proofs.Common.{◌≡◌, ◌≢◌, ℕ, zero, suc, ◌+◌, ◌<◌, List, [], ◌∷◌, ◌++◌, length, take, refl, ap, ◌∙◌, arith}
use Rattle.std.specs.Prelude.{slice_index_or, slice_set}
use Rattle.cip_mps.specs.Tables.{map_at}

pub at_length : {X Y : Type 0} (f : ℕ → X → Y) (xs : List X) → length (map_at f xs) ≡ length xs
at_length f [] = refl
at_length f (x ∷ xs) = ap suc (at_length (λ k. f (suc k)) xs)

pub at_same : {X Y : Type 0} (f g : ℕ → X → Y) (xs : List X) → ((k : ℕ) (x : X) → k < length xs → f k x ≡ g k x) → map_at f xs ≡ map_at g xs
at_same f g [] h = refl
at_same f g (x ∷ xs) h =
    let p : f 0 x ≡ g 0 x = h 0 x (omega arith) in
    let q : map_at (λ k. f (suc k)) xs ≡ map_at (λ k. g (suc k)) xs = at_same (λ k. f (suc k)) (λ k. g (suc k)) xs (λ k y l. h (suc k) y (omega (arith, l))) in
    λ i. p i ∷ q i

pub at_index : {X Y : Type 0} (f : ℕ → X → Y) (xs : List X) (k : ℕ) (d : X) (e : Y) → k < length xs → slice_index_or (map_at f xs) k e ≡ f k (slice_index_or xs k d)
at_index f [] k d e l = absurd (omega (arith, l))
at_index f (x ∷ xs) zero d e l = refl
at_index f (x ∷ xs) (suc k) d e l = at_index (λ j. f (suc j)) xs k d e (omega (arith, l))

-- another item at one place
pub at_change : {X Y : Type 0} (f : ℕ → X → Y) (xs : List X) (k : ℕ) (y : X) → map_at f (slice_set xs k y) ≡ slice_set (map_at f xs) k (f k y)
at_change f [] k y = refl
at_change f (x ∷ xs) zero y = refl
at_change f (x ∷ xs) (suc k) y = ap (λ ys. f 0 x ∷ ys) (at_change (λ j. f (suc j)) xs k y)

-- functions that differ at one place
pub at_other : {X Y : Type 0} (f g : ℕ → X → Y) (xs : List X) (k : ℕ) (d : X) → k < length xs → ((j : ℕ) (x : X) → j ≢ k → g j x ≡ f j x) → map_at g xs ≡ slice_set (map_at f xs) k (g k (slice_index_or xs k d))
at_other f g [] k d l h = absurd (omega (arith, l))
at_other f g (x ∷ xs) zero d l h =
    ap (λ ys. g 0 x ∷ ys) (at_same (λ j. g (suc j)) (λ j. f (suc j)) xs (λ j y _. h (suc j) y (λ p. omega (arith, p))))
at_other f g (x ∷ xs) (suc k) d l h =
    let p : g 0 x ≡ f 0 x = h 0 x (λ p. omega (arith, p)) in
    let q : map_at (λ j. g (suc j)) xs ≡ slice_set (map_at (λ j. f (suc j)) xs) k (g (suc k) (slice_index_or xs k d)) =
    at_other (λ j. f (suc j)) (λ j. g (suc j)) xs k d (omega (arith, l)) (λ j y n. h (suc j) y (λ p. n (omega (arith, p)))) in
    λ i. p i ∷ q i

pub at_push : {X Y : Type 0} (f : ℕ → X → Y) (xs : List X) (y : X) → map_at f (xs ++ y ∷ []) ≡ map_at f xs ++ f (length xs) y ∷ []
at_push f [] y = refl
at_push f (x ∷ xs) y = ap (λ zs. f 0 x ∷ zs) (at_push (λ j. f (suc j)) xs y)

pub at_append : {X Y : Type 0} (f : ℕ → X → Y) (xs ys : List X) → map_at f (xs ++ ys) ≡ map_at f xs ++ map_at (λ k. f (length xs + k)) ys
at_append f [] ys = at_same f (λ k. f (0 + k)) ys (λ k y _. ap (λ n. f n y) (omega arith))
at_append f (x ∷ xs) ys =
    ap (λ zs. f 0 x ∷ zs) (at_append (λ j. f (suc j)) xs ys
    ∙ ap (λ zs. map_at (λ j. f (suc j)) xs ++ zs) (at_same (λ k. f (suc (length xs + k))) (λ k. f (suc (length xs) + k)) ys (λ k y _. ap (λ n. f n y) (omega arith))))

pub at_take : {X Y : Type 0} (f : ℕ → X → Y) (xs : List X) (n : ℕ) → map_at f (take n xs) ≡ take n (map_at f xs)
at_take f xs zero = refl
at_take f [] (suc n) = refl
at_take f (x ∷ xs) (suc n) = ap (λ ys. f 0 x ∷ ys) (at_take (λ j. f (suc j)) xs n)
