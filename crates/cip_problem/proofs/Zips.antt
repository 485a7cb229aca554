-- Facts of two lists place by place.
use Rattle.std.proofs.Common.{◌≡◌, ℕ, zero, suc, ◌<◌, List, [], ◌∷◌, length, get_or, arith}
use Rattle.std.specs.List.{AllZip}

pub zip_from : {A B : Type 0} (R : A → B → Type 0) (xs : List A) (ys : List B) (d : A) (e : B) → length xs ≡ length ys → ((k : ℕ) → k < length xs → R (get_or xs k d) (get_or ys k e)) → AllZip R xs ys
zip_from R [] [] d e l h = tt
zip_from R [] (y ∷ ys) d e l h = absurd (omega (arith, l))
zip_from R (x ∷ xs) [] d e l h = absurd (omega (arith, l))
zip_from R (x ∷ xs) (y ∷ ys) d e l h = (h 0 (omega arith), zip_from R xs ys d e (omega (arith, l)) (λ k i. h (suc k) (omega (arith, i))))

pub zip_at : {A B : Type 0} (R : A → B → Type 0) (xs : List A) (ys : List B) (d : A) (e : B) (k : ℕ) → AllZip R xs ys → k < length xs → R (get_or xs k d) (get_or ys k e)
zip_at R [] ys d e k h i = absurd (omega (arith, i))
zip_at R (x ∷ xs) [] d e k h i = absurd h
zip_at R (x ∷ xs) (y ∷ ys) d e zero h i = h.0
zip_at R (x ∷ xs) (y ∷ ys) d e (suc k) h i = zip_at R xs ys d e k h.1 (omega (arith, i))
