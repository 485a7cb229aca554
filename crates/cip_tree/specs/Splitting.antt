-- The halves of a node, as changes of a column, and why a node wasn't split.
use Rattle.std.specs.Prelude.{◌≡◌, ℕ, ◌≤◌, ◌^◌, ℤ, unsigned_abs, true, Some, slice_get, ⊤}
use Rattle.cip_problem.specs.Program.{Plain}
use Rattle.cip_problem.specs.Box.{sides_at}
use Rattle.cip_problem.specs.Choices.{choice_at}
use Rattle.cip_problem.specs.Log.{low_node, high_node, CanSplitAt, CanSplit}
use Rattle.cip_tree.specs.declared.origins.Parting.{Parting}
use Rattle.cip_tree.specs.declared.origins.Parting.TheVariants.{Whole}
use Rattle.cip_tree.specs.Origins.{IsNear, half_change, low_part, high_part, filled}
use Rattle.cip_tree.specs.declared.splits.SplitFault.{SplitFault}
use Rattle.cip_tree.specs.declared.splits.SplitFault.TheVariants.{NotWhole, Outside, NoMemory}
use Rattle.cip_domain.specs.Changes.{Change, tightened}
use Rattle.cip_domain.specs.Halves.{CanHalve}
use Rattle.cip_tree.specs.Nodes.{TakenNode, Nodes, region_in, region_of, box_of, choices_of, shown}

-- a column of a node can be split, and these two changes give its halves
pub record AreHalves (tree : Nodes) (node : TakenNode) (column : ℕ) (at : ℤ) (low high : Change) : Type 0 where
  pub near : slice_get tree.integral column ≡ Some true → unsigned_abs at ≤ 2 ^ 101
  pub can : CanSplit tree.integral (shown tree node) column at
  pub low_is : tightened (region_of tree node) low ≡ region_in (low_node (shown tree node) column at)
  pub high_is : tightened (region_of tree node) high ≡ region_in (high_node (shown tree node) column at)

-- so can it at a column that is parted in one of the two ways
pub record IsParting (tree : Nodes) (node : TakenNode) (column : ℕ) (at : ℤ) (parting : Parting) : Type 0 where
  pub near : parting ≡ Whole → IsNear at
  pub halves : AreHalves tree node column at
      (filled tree.root.choices (half_change (low_part parting) column at))
      (filled tree.root.choices (half_change (high_part parting) column at))

-- the column is neither a whole one that is plain nor one whose choice is open; it is a whole one that is plain, and
-- its sides can't be halved there; or memory was refused
abbrev pub IsSplitFault : Nodes → TakenNode → ℕ → ℤ → SplitFault → Type 0
IsSplitFault tree node column at NotWhole =
    ¬ CanSplitAt (choice_at (choices_of tree node) column) (slice_get tree.integral column)
IsSplitFault tree node column at Outside =
    (choice_at (choices_of tree node) column ≡ Plain) × (slice_get tree.integral column ≡ Some true)
    × (¬ CanHalve (sides_at (box_of tree node) column) at)
IsSplitFault tree node column at NoMemory = ⊤
