-- The files of a shelf as names with their texts.
use Rattle.std.specs.Prelude.{ℕ, List, map, string_bytes}
use Rattle.cip_io.specs.declared.shelf.File.{File}

abbrev pub named : List File → List (List ℕ × List ℕ)
named files = map (λ file. (string_bytes file.name, file.text.items)) files
