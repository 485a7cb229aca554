-- What the words come to where the text ends.
use Rattle.std.specs.Prelude.{◌≡◌, ℕ, Option, None, Some, vec_len}
use Rattle.cip_problem.specs.Program.{Program}
use Rattle.cip_problem.specs.WellFormed.{IsWellFormed, columns}
use Rattle.cip_text_rules.specs.BlockWords.{WordPlace, ZeroDue, CountDue, BlockDue}
use Rattle.cip_text_rules.specs.BlockOwners.{owners_of}
use Rattle.cip_text_rules.specs.BlockSteps.{BlockState, blocks_at}
use Rattle.cip_blocks.specs.declared.ending.Ending.{Ending}
use Rattle.cip_blocks.specs.OwnersKept.{owners_shown}

-- the blocks of the rows, and those of the columns, of a program whose lists fit together
pub record IsEnding (program : Program) (state : BlockState) (ending : Ending) : Type 0 where
  pub formed : IsWellFormed program
  pub rows : ending.row_blocks.items ≡ blocks_at state
  pub owned : owners_shown ending.owners ≡ owners_of program (blocks_at state)
  pub sized : vec_len ending.owners.blocks ≡ columns program

-- the kind of the fault of a number that is due
abbrev pub place_fault : WordPlace → Option ℕ
place_fault ZeroDue = Some 1
place_fault CountDue = Some 2
place_fault BlockDue = Some 3
place_fault other = None
