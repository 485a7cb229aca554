-- The blocks of a program: each block's rows and columns, the master rows, and the columns of no block.
--     blocks_of program count row_blocks      the blocks, by the block of each row
use Rattle.std.specs.Prelude.{ℕ, zero, suc, ◌+◌, ◌==◌, nat_lt, Bool, false, not, ◌&&◌, ◌||◌, if◌then◌else◌, List, [], ◌∷◌, length, map, Option, None, Some, is_some, is_none}
use Rattle.std.specs.List.{filter, list_any}
use Rattle.cip_problem.specs.Program.{Sides, Row, Program}
use Rattle.cip_problem.specs.Box.{sides_at}
use Rattle.cip_problem.specs.WellFormed.{columns}

-- the most blocks
abbrev pub most_blocks : ℕ
most_blocks = 4096

-- rows and columns of a block, by rising number
pub record BlockPart : Type 0 where
  pub rows : List ℕ
  pub columns : List ℕ

-- the blocks by their numbers from 0, the master rows, and the columns of no block, by rising number
pub record Blocks : Type 0 where
  pub blocks : List BlockPart
  pub master_rows : List ℕ
  pub free_columns : List ℕ

-- ---- numbers

-- so many numbers from one on
abbrev pub numbers_from : (first count : ℕ) → List ℕ
numbers_from first zero = []
numbers_from first (suc count) = first ∷ numbers_from (first + 1) count

-- a number stands in a list
abbrev pub has_number : List ℕ → ℕ → Bool
has_number numbers k = list_any (λ n. n == k) numbers

-- ---- rows

-- a row is of this block
abbrev pub is_block : ℕ → Option ℕ → Bool
is_block block None = false
is_block block (Some other) = other == block

-- the numbers of the rows whose block passes a test, the first of which has this number
abbrev pub rows_where : (Option ℕ → Bool) → (first : ℕ) → List (Option ℕ) → List ℕ
rows_where test first [] = []
rows_where test first (block ∷ others) =
    if test block then first ∷ rows_where test (first + 1) others else rows_where test (first + 1) others

-- ---- columns

-- a row has an entry of a column
abbrev pub stands_on : (column : ℕ) → Row → Bool
stands_on column row = list_any (λ t. t.column == column) row.terms

-- a row of a block has an entry of a column
abbrev pub has_entry : (block column : ℕ) → List (Option ℕ) → List Row → Bool
has_entry block column [] rows = false
has_entry block column (b ∷ others) [] = false
has_entry block column (b ∷ others) (row ∷ rows) =
    (is_block block b && stands_on column row) || has_entry block column others rows

-- a column is of a block: one of the block's rows has an entry of it
abbrev pub is_column_of : Program → List (Option ℕ) → (block column : ℕ) → Bool
is_column_of program row_blocks block column = has_entry block column row_blocks program.rows

-- the blocks of a column, of so many
abbrev pub blocks_with : Program → (count : ℕ) → List (Option ℕ) → (column : ℕ) → List ℕ
blocks_with program count row_blocks column =
    filter (λ block. is_column_of program row_blocks block column) (numbers_from 0 count)

-- a column has entries in two blocks
abbrev pub is_linking : Program → (count : ℕ) → List (Option ℕ) → (column : ℕ) → Bool
is_linking program count row_blocks column = nat_lt 1 (length (blocks_with program count row_blocks column))

-- both bounds are there
abbrev pub is_bounded : Sides → Bool
is_bounded sides = is_some sides.low && is_some sides.high

-- a column of a block lacks a bound
abbrev pub is_open : Program → (count : ℕ) → List (Option ℕ) → (column : ℕ) → Bool
is_open program count row_blocks column =
    nat_lt 0 (length (blocks_with program count row_blocks column)) && not (is_bounded (sides_at program.bounds column))

-- ---- the blocks

-- the part of a block
abbrev pub block_part : Program → List (Option ℕ) → (block : ℕ) → BlockPart
block_part program row_blocks block = record {
  rows = rows_where (is_block block) 0 row_blocks;
  columns = filter (is_column_of program row_blocks block) (numbers_from 0 (columns program));
}

-- the blocks of a program
abbrev pub blocks_of : Program → (count : ℕ) → List (Option ℕ) → Blocks
blocks_of program count row_blocks = record {
  blocks = map (block_part program row_blocks) (numbers_from 0 count);
  master_rows = rows_where is_none 0 row_blocks;
  free_columns =
      filter (λ column. not (nat_lt 0 (length (blocks_with program count row_blocks column))))
      (numbers_from 0 (columns program));
}

-- the numbers of each of so many blocks
abbrev pub grouped : (count : ℕ) → List (Option ℕ) → List (List ℕ)
grouped count blocks = map (λ block. rows_where (is_block block) 0 blocks) (numbers_from 0 count)

-- blocks by their rows and by their columns
abbrev pub parts_of : (rows columns : List (List ℕ)) → List BlockPart
parts_of [] columns = []
parts_of (rows ∷ others) [] = []
parts_of (rows ∷ others) (columns ∷ more) = record { rows = rows; columns = columns } ∷ parts_of others more

-- the blocks by the block of each row and of each column; without one a row is a master row, and a column of no block
abbrev pub blocks_by : (count : ℕ) → (row_blocks column_blocks : List (Option ℕ)) → Blocks
blocks_by count row_blocks column_blocks = record {
  blocks = parts_of (grouped count row_blocks) (grouped count column_blocks);
  master_rows = rows_where is_none 0 row_blocks;
  free_columns = rows_where is_none 0 column_blocks;
}
