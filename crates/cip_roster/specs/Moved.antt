-- What becomes of plugins as they are moved.
use Rattle.std.specs.Prelude.{ℕ, ◌+◌, List, [], ◌∷◌, Option, None, Some}

-- what becomes of each value, by its number
abbrev pub numbered : {A B : Type 0} → (Option ℕ → A → B) → ℕ → List A → List B
numbered left id [] = []
numbered left id (x ∷ xs) = left (Some id) x ∷ numbered left (id + 1) xs

-- what becomes of each value that is there, without a number
abbrev pub unnumbered : {A B : Type 0} → (Option ℕ → A → B) → List (Option A) → List B
unnumbered left [] = []
unnumbered left (None ∷ xs) = unnumbered left xs
unnumbered left (Some x ∷ xs) = left None x ∷ unnumbered left xs
