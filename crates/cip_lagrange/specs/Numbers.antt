-- Lists by the numbers of their entries.
use Rattle.std.specs.Prelude.{ℕ, List, slice_get}
use Rattle.std.specs.List.{filter_map}

-- what stands in a list at these numbers, as far as it is there
abbrev pub found : {X : Type 0} → List X → List ℕ → List X
found xs numbers = filter_map (λ number. slice_get xs number) numbers
