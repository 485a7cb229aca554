-- What the Lagrangian bound works in has room for a program and its blocks.
use Rattle.std.specs.Prelude.{◌≡◌, ℕ, ◌<◌, ◌≤◌, List, length, Some, slice_get, All}
use Rattle.cip_problem.specs.Program.{Program}
use Rattle.cip_problem.specs.Activity.{StandsBelow}
use Rattle.cip_problem.specs.Limits.{most_columns}
use Rattle.cip_problem.specs.WellFormed.{columns}
use Rattle.cip_problem.specs.BlockParts.{most_blocks}
use Rattle.cip_problem.specs.BlockMeaning.{part_at}
use Rattle.cip_lagrange.specs.declared.parts.Subproblem.{Subproblem}
use Rattle.cip_lagrange.specs.declared.parts.Decomposed.{Decomposed}
use Rattle.cip_lagrange.specs.declared.scratches.BlockScratch.{BlockScratch}
use Rattle.cip_lagrange.specs.declared.scratches.LagrangeScratch.{LagrangeScratch}

-- there is a box and a cost for each column of a block, and the choices are the block's
pub record FitsBlock (part : Subproblem) (work : BlockScratch) : Type 0 where
  pub costs : length work.costs.items ≡ length part.whole.items
  pub bounds : length work.region.bounds ≡ length part.whole.items
  pub choices : work.region.choices ≡ part.choices

-- so for each block
pub record AreFitting (parts : List Subproblem) (works : List BlockScratch) : Type 0 where
  pub long : length works ≡ length parts
  pub each : (block : ℕ) (part : Subproblem) (work : BlockScratch) → slice_get parts block ≡ Some part
      → slice_get works block ≡ Some work → FitsBlock part work

-- there is room for each column and for each block
pub record FitsScratch (program : Program) (kept : Decomposed) (scratch : LagrangeScratch) : Type 0 where
  pub rests : length scratch.rests.items ≡ columns program
  pub blocks : AreFitting kept.subproblems.items scratch.blocks.items
  pub row : columns program ≤ length scratch.row.entries

-- the rows of a block stand on its columns, for which there is room
pub record CanBound (part : Subproblem) (room : ℕ) : Type 0 where
  pub rows : All (λ row. StandsBelow (length part.whole.items) row.terms) part.rows.items
  pub few : length part.whole.items ≤ room

-- a block's columns have numbers below the number of columns, its rows stand on them, and there is room for them
pub record IsReady (count room : ℕ) (numbers : List ℕ) (part : Subproblem) : Type 0 where
  pub within : All (λ number. number < count) numbers
  pub long : length part.whole.items ≡ length numbers
  pub few : length numbers ≤ most_columns
  pub can : CanBound part room

-- so for each block
pub record AreReady (count room : ℕ) (kept : Decomposed) : Type 0 where
  pub blocks : length kept.blocks.blocks ≡ length kept.subproblems.items
  pub few : length kept.subproblems.items ≤ most_blocks
  pub each : (block : ℕ) (part : Subproblem) → slice_get kept.subproblems.items block ≡ Some part
      → IsReady count room (part_at kept.blocks block).columns part
