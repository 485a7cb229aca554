-- Names, as lists of bytes, and their numbers.
use Rattle.std.specs.Prelude.{ℕ, List, Option}
use Rattle.std.specs.List.{position_from}
use Rattle.std.specs.Str.{bytes_eq}

-- the number of a name: its first place in the list
abbrev pub number_of : List (List ℕ) → List ℕ → Option ℕ
number_of names name = position_from (bytes_eq name) 0 names
