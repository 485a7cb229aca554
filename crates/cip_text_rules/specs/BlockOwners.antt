-- The blocks of columns, found in one pass over the rows: the first block that has an entry of a column owns it, and a
-- column links blocks where another block has an entry of it too.
--     owners_of program row_blocks      the owners, and whether a column links blocks
use Rattle.std.specs.Prelude.{◌≡◌, ℕ, ◌<◌, ◌==◌, nat_lt, Bool, false, not, ◌||◌, List, [], ◌∷◌, length, Option, None, Some, All, IfSome, fold, is_some, replicate, slice_index_or, slice_set}
use Rattle.std.specs.List.{list_any}
use Rattle.cip_problem.specs.Activity.{StandsBelow}
use Rattle.cip_problem.specs.Program.{Row, Program}
use Rattle.cip_problem.specs.WellFormed.{columns}
use Rattle.cip_problem.specs.BlockParts.{numbers_from, is_block, is_column_of, blocks_with, is_linking}

-- the owner of each column, and whether a column has entries in two blocks
pub record Owners : Type 0 where
  pub blocks : List (Option ℕ)
  pub links : Bool

-- before the first row
abbrev pub no_owners : (columns : ℕ) → Owners
no_owners columns = record { blocks = replicate columns None; links = false }

-- the owner of a column
abbrev pub owner_at : Owners → (column : ℕ) → Option ℕ
owner_at owners column = slice_index_or owners.blocks column None

-- a column of which a block has an entry, where this is its owner so far
abbrev pub owned_at : Option ℕ → (block column : ℕ) → Owners → Owners
owned_at None block column owners =
    record { blocks = slice_set owners.blocks column (Some block); links = owners.links }
owned_at (Some owner) block column owners =
    record { blocks = owners.blocks; links = owners.links || not (owner == block) }

-- one entry of a row of a block
abbrev pub entry_owned : (block : ℕ) → Owners → (column : ℕ) → Owners
entry_owned block owners column = owned_at (owner_at owners column) block column owners

-- one row: its entries count where it is of a block
abbrev pub row_owned : Option ℕ → Row → Owners → Owners
row_owned None row owners = owners
row_owned (Some block) row owners = fold (λ o t. entry_owned block o t.column) owners row.terms

-- all rows
abbrev pub owners_from : Owners → List (Option ℕ) → List Row → Owners
owners_from owners [] rows = owners
owners_from owners (block ∷ others) [] = owners
owners_from owners (block ∷ others) (row ∷ rows) = owners_from (row_owned block row owners) others rows

-- the owners of a program's columns
abbrev pub owners_of : Program → (row_blocks : List (Option ℕ)) → Owners
owners_of program row_blocks = owners_from (no_owners (columns program)) row_blocks program.rows

-- what the owners tell: whether a column links blocks; whether a column is of a block; and, where none links blocks, of
-- which
pub record OwnersTell (program : Program) (count : ℕ) (row_blocks : List (Option ℕ)) : Type 0 where
  pub links : list_any (is_linking program count row_blocks) (numbers_from 0 (columns program))
      ≡ (owners_of program row_blocks).links
  pub owned : (column : ℕ) → column < columns program
      → nat_lt 0 (length (blocks_with program count row_blocks column))
      ≡ is_some (owner_at (owners_of program row_blocks) column)
  pub owner : (block column : ℕ) → column < columns program → (owners_of program row_blocks).links ≡ false
      → is_column_of program row_blocks block column
      ≡ is_block block (owner_at (owners_of program row_blocks) column)

-- they tell it where the rows stand on columns of the program, and their blocks are among so many
abbrev pub OwnersAreRight : Type 0
OwnersAreRight =
    (program : Program) (count : ℕ) (row_blocks : List (Option ℕ))
    → All (λ row. StandsBelow (columns program) row.terms) program.rows
    → All (λ block. IfSome block (λ b. b < count)) row_blocks → OwnersTell program count row_blocks
