-- What a block asks of its points, as it is put together from the lists of the program.
use Rattle.std.specs.Prelude.{◌≡◌, ℕ, List, length, map, Some, slice_get}
use Rattle.cip_problem.specs.Program.{Program}
use Rattle.cip_problem.specs.BlockParts.{BlockPart, Blocks}
use Rattle.cip_problem.specs.BlockMeaning.{part_at}
use Rattle.cip_lagrange.specs.declared.parts.Subproblem.{Subproblem}
use Rattle.cip_lagrange.specs.Numbers.{found}
use Rattle.cip_lagrange.specs.Places.{placed_row}

-- what stands at the numbers of a block
pub record IsBuilt (program : Program) (places : List ℕ) (part : BlockPart) (kept : Subproblem) : Type 0 where
  pub rows : kept.rows.items ≡ map (placed_row places) (found program.rows part.rows)
  pub whole : kept.whole.items ≡ found program.integral part.columns
  pub choices : kept.choices ≡ found program.choices part.columns
  pub bounds : kept.bounds ≡ found program.bounds part.columns

-- so for each block
pub record AreBuilt (program : Program) (places : List ℕ) (blocks : Blocks) (kept : List Subproblem) : Type 0 where
  pub long : length kept ≡ length blocks.blocks
  pub each : (block : ℕ) (part : Subproblem) → slice_get kept block ≡ Some part
      → IsBuilt program places (part_at blocks block) part
