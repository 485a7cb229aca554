-- A program taken apart: whose its columns and rows are, and what each block asks of its points.
use Rattle.std.specs.Prelude.{◌≡◌, ◌↔◌, ℕ, ◌<◌, ◌≤◌, true, length, Some, slice_get}
use Rattle.cip_problem.specs.Program.{Program}
use Rattle.cip_problem.specs.WellFormed.{columns}
use Rattle.cip_problem.specs.BlockParts.{Blocks, most_blocks, has_number, blocks_by}
use Rattle.cip_problem.specs.BlockMeaning.{part_at}
use Rattle.cip_pricing.specs.Decomposition.{Decomposition, IsDecomposed, picked, conditions_of}
use Rattle.cip_lagrange.specs.Places.{ArePlaces}
use Rattle.cip_lagrange.specs.declared.parts.Subproblem.{Subproblem}
use Rattle.cip_lagrange.specs.declared.parts.Decomposed.{Decomposed}

-- how many blocks there are, and whose each column and each row is
abbrev pub owners_in : Decomposed → Decomposition
owners_in kept = record {
  count = length kept.subproblems.items;
  columns = kept.column_owners.items;
  rows = kept.row_owners.items;
}

-- what is kept of a block: what it asks of its points, and the program's sides of its columns
pub record IsSubproblem (program : Program) (owners : Decomposition) (block : ℕ) (kept : Subproblem) : Type 0 where
  pub rows : kept.rows.items ≡ (conditions_of program owners block).rows
  pub whole : kept.whole.items ≡ (conditions_of program owners block).integral
  pub choices : kept.choices ≡ (conditions_of program owners block).choices
  pub bounds : kept.bounds ≡ picked (Some block) owners.columns program.bounds

-- the program falls into these blocks, at most 4,096; the numbers of their rows and columns rise; each
-- column has its place; and each block is kept
pub record IsDecompositionOf (program : Program) (kept : Decomposed) : Type 0 where
  pub decomposed : IsDecomposed program (owners_in kept)
  pub few : length kept.subproblems.items ≤ most_blocks
  pub each_row : length kept.row_owners.items ≡ length program.rows
  pub numbers : kept.blocks
      ≡ blocks_by (length kept.subproblems.items) kept.row_owners.items kept.column_owners.items
  pub places : ArePlaces kept.column_owners.items kept.places.items
  pub subproblems : (block : ℕ) (part : Subproblem) → slice_get kept.subproblems.items block ≡ Some part
      → IsSubproblem program (owners_in kept) block part

-- each column and each row is of the block that has its number
pub record HasOwnersOf (program : Program) (blocks : Blocks) (kept : Decomposed) : Type 0 where
  pub count : length kept.subproblems.items ≡ length blocks.blocks
  pub columns : (block column : ℕ) → block < length blocks.blocks → column < columns program
      → (has_number (part_at blocks block).columns column ≡ true)
      ↔ (slice_get kept.column_owners.items column ≡ Some (Some block))
  pub rows : (block row : ℕ) → block < length blocks.blocks → row < length program.rows
      → (has_number (part_at blocks block).rows row ≡ true)
      ↔ (slice_get kept.row_owners.items row ≡ Some (Some block))
