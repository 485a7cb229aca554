-- What the blocks of a program keep.
--     AreBlocks program blocks      the rows and columns of a program fall into these blocks
use Rattle.std.specs.Prelude.{◌≡◌, ◌⊎◌, ◌↔◌, ℕ, ◌<◌, ◌≤◌, true, false, [], length, slice_index_or, is_some}
use Rattle.cip_problem.specs.Program.{Row, Program, no_row}
use Rattle.cip_problem.specs.Box.{sides_at}
use Rattle.cip_problem.specs.WellFormed.{columns}
use Rattle.cip_problem.specs.BlockParts.{most_blocks, BlockPart, Blocks, has_number, stands_on}

-- what stands past the last block
abbrev pub no_part : BlockPart
no_part = record { rows = []; columns = [] }

-- the block of a number
abbrev pub part_at : Blocks → ℕ → BlockPart
part_at blocks k = slice_index_or blocks.blocks k no_part

-- the row of a number
abbrev pub row_at : Program → ℕ → Row
row_at program k = slice_index_or program.rows k no_row

-- a block has a row with an entry of a column
pub record HasEntry (program : Program) (part : BlockPart) (column : ℕ) : Type 0 where
  pub row : ℕ
  pub is_row : has_number part.rows row ≡ true
  pub entry : stands_on column (row_at program row) ≡ true

-- a row is of one of the blocks
pub record IsOfBlock (blocks : Blocks) (row : ℕ) : Type 0 where
  pub block : ℕ
  pub is_block : block < length blocks.blocks
  pub is_row : has_number (part_at blocks block).rows row ≡ true

-- there are from 1 to 4,096 blocks; each row is a master row or of one block; a block has the columns of which its
-- rows have entries; a column of a block has entries in rows of the block and in master rows alone, and two bounds; and
-- the other columns are of no block
pub record AreBlocks (program : Program) (blocks : Blocks) : Type 0 where
  pub some : 0 < length blocks.blocks
  pub few : length blocks.blocks ≤ most_blocks
  pub placed : (row : ℕ) → row < length program.row_names
      → has_number blocks.master_rows row ≡ true ⊎ IsOfBlock blocks row
  pub one_block : (row b c : ℕ) → has_number (part_at blocks b).rows row ≡ true
      → has_number (part_at blocks c).rows row ≡ true → b ≡ c
  pub no_master : (row b : ℕ) → has_number (part_at blocks b).rows row ≡ true
      → has_number blocks.master_rows row ≡ false
  pub columns_of : (b column : ℕ) → b < length blocks.blocks → column < columns program
      → (has_number (part_at blocks b).columns column ≡ true) ↔ HasEntry program (part_at blocks b) column
  pub entries : (b column row : ℕ) → has_number (part_at blocks b).columns column ≡ true
      → row < length program.row_names → stands_on column (row_at program row) ≡ true
      → has_number (part_at blocks b).rows row ≡ true ⊎ has_number blocks.master_rows row ≡ true
  pub bounded : (b column : ℕ) → has_number (part_at blocks b).columns column ≡ true
      → (is_some (sides_at program.bounds column).low ≡ true) × (is_some (sides_at program.bounds column).high ≡ true)
  pub free : (column : ℕ) → column < columns program
      → (has_number blocks.free_columns column ≡ true)
      ↔ ((b : ℕ) → has_number (part_at blocks b).columns column ≡ false)
