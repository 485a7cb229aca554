-- Names with their texts, as the stores in memory hold them.
use Rattle.std.specs.Prelude.{ℕ, zero, suc, List, [], ◌∷◌, Option, Some, None, if◌then◌else◌, unwrap_or}
use Rattle.std.specs.Str.{bytes_eq}

-- the text that a name has: of several, the first
abbrev pub held : List (List ℕ × List ℕ) → List ℕ → Option (List ℕ)
held [] name = None
held (file ∷ files) name = if bytes_eq file.0 name then Some file.1 else held files name

-- the same, where a name that isn't there has an empty text
abbrev pub held_or_empty : List (List ℕ × List ℕ) → List ℕ → List ℕ
held_or_empty files name = unwrap_or (held files name) []

-- the text of the file at an index, and none past the last
abbrev pub text_at : List (List ℕ × List ℕ) → ℕ → List ℕ
text_at [] index = []
text_at (file ∷ files) zero = file.1
text_at (file ∷ files) (suc index) = text_at files index
