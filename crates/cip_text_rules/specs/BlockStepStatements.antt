-- The laws of the steps, each as one statement: functions of `src/lib.rt` have them as contracts.
use Rattle.std.specs.Prelude.{◌≡◌, ⊤, ℕ, ◌<◌, ◌≤◌, List, length, Option, None, Some, All, IfSome, unwrap_or, is_none, is_some, if◌then◌else◌}
use Rattle.cip_problem.specs.Program.{Program}
use Rattle.cip_problem.specs.NamesOnce.{StandOnce}
use Rattle.cip_problem.specs.BlockParts.{most_blocks}
use Rattle.cip_text_rules.specs.MpsRules.{least}
use Rattle.cip_text_rules.specs.LineStream.{TextsAreRead, FaultsOfEndedLines, FaultsStay}
use Rattle.cip_text_rules.specs.BlockWords.{Presolved, BlockCount, Block, Master, WordPlace, CountDue, NamesOf, word_said, Opens, OutOfPlace, Zero, Count, Number, RowName, from_zero}
use Rattle.cip_text_rules.specs.BlockRules.{is_bad_count, block_reading}
use Rattle.cip_text_rules.specs.BlockSteps.{BlockState, block_at, no_state, is_taken, block_tests, name_tests, count_of, state_with, block_steps}

-- a text that is read byte by byte comes to its blocks or its first fault
abbrev pub BlocksAreRead : Type 0
BlocksAreRead =
    (program : Program) → StandOnce program.row_names → TextsAreRead (block_reading program) (block_steps program)

-- a fault is known exactly where the text, as far as it was read, is faulty at a line that has ended
abbrev pub BlockFaultsOfEndedLines : Type 0
BlockFaultsOfEndedLines =
    (program : Program) → StandOnce program.row_names
    → FaultsOfEndedLines (block_reading program) (block_steps program)

-- a fault that is known is the text's, whatever follows, and stays known
abbrev pub BlockFaultsStay : Type 0
BlockFaultsStay =
    (program : Program) → StandOnce program.row_names → FaultsStay (block_reading program) (block_steps program)

-- the least kind of a word is that of the tests that such a word can fail
pub record BlockWordsHaveTests : Type 0 where
  pub presolved : (program : Program) (state : BlockState)
      → least (block_tests program state (Opens Presolved)) ≡ None
  pub count_opens : (program : Program) (state : BlockState)
      → least (block_tests program state (Opens BlockCount)) ≡ (if is_some state.count then Some 1 else None)
  pub block_opens : (program : Program) (state : BlockState)
      → least (block_tests program state (Opens Block)) ≡ (if is_none state.count then Some 1 else None)
  pub master : (program : Program) (state : BlockState) → least (block_tests program state (Opens Master)) ≡ None
  pub out_of_place : (program : Program) (state : BlockState)
      → least (block_tests program state OutOfPlace) ≡ Some 1
  pub zero : (program : Program) (state : BlockState) → least (block_tests program state Zero) ≡ None
  pub count : (program : Program) (state : BlockState) (number : Option ℕ)
      → least (block_tests program state (Count number)) ≡ (if is_bad_count (Count number) then Some 2 else None)
  pub number : (program : Program) (state : BlockState) (number : Option ℕ)
      → least (block_tests program state (Number number))
      ≡ (if is_taken state.begun (from_zero number) then Some 3 else None)
  pub name : (program : Program) (state : BlockState) (block : Option ℕ) (name : List ℕ)
      → least (block_tests program state (RowName block name)) ≡ least (name_tests program state name)

-- the number of blocks is due only where it wasn't said, and names stand for a block that is one of so many
abbrev pub IsSoundPlace : Option ℕ → WordPlace → Type 0
IsSoundPlace count CountDue = count ≡ None
IsSoundPlace count (NamesOf block) = IfSome block (λ b. b < unwrap_or count 0)
IsSoundPlace count other = ⊤

-- there is a place for each row and a mark for each block, there are not too many blocks, and those of rows are among
-- them
pub record IsSoundBlockState (program : Program) (state : BlockState) : Type 0 where
  pub rows : length state.rows ≡ length program.row_names
  pub begun : length state.begun ≡ count_of state
  pub few : count_of state ≤ most_blocks
  pub place : IsSoundPlace state.count state.place
  pub below : All (λ place. IfSome (block_at place) (λ b. b < count_of state)) state.rows

-- the first state is sound, and so is each state behind a word without fault
pub record BlockStatesAreSound : Type 0 where
  pub first : (program : Program) → IsSoundBlockState program (no_state program)
  pub later : (program : Program) (state : BlockState) (word : List ℕ) → IsSoundBlockState program state
      → least (block_tests program state (word_said state.place word)) ≡ None
      → IsSoundBlockState program (state_with program state (word_said state.place word))
