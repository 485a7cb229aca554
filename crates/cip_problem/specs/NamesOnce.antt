-- Names that stand once.
use Rattle.std.specs.Prelude.{◌≡◌, ⊤, ℕ, false, List, [], ◌∷◌}
use Rattle.std.specs.List.{list_any}
use Rattle.std.specs.Str.{bytes_eq}

-- no name stands twice
abbrev pub StandOnce : List (List ℕ) → Type 0
StandOnce [] = ⊤
StandOnce (name ∷ names) = (list_any (bytes_eq name) names ≡ false) × StandOnce names
