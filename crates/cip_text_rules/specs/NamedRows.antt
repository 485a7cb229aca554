-- The rows that a text of blocks names, each with its block.
--     row_blocks program named      the block of each row of the program
use Rattle.std.specs.Prelude.{ℕ, Bool, if◌then◌else◌, List, [], ◌∷◌, map, Option, None}
use Rattle.std.specs.List.{list_any}
use Rattle.std.specs.Str.{bytes_eq}
use Rattle.cip_problem.specs.Program.{Program}

-- a row that was named, with its block; without one it is a master row
pub record NamedRow : Type 0 where
  pub name : List ℕ
  pub block : Option ℕ

-- a row was named
abbrev pub is_named : List NamedRow → List ℕ → Bool
is_named named name = list_any (λ row. bytes_eq name row.name) named

-- the block that a row was named for; a row that wasn't named has none
abbrev pub block_named : List NamedRow → List ℕ → Option ℕ
block_named [] name = None
block_named (row ∷ others) name = if bytes_eq name row.name then row.block else block_named others name

-- the block of each row of the program, if it has one
abbrev pub row_blocks : Program → List NamedRow → List (Option ℕ)
row_blocks program named = map (block_named named) program.row_names
