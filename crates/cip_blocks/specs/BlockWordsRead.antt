-- What the code keeps of the words that were read, and what it takes of one word more.
use Rattle.std.specs.Prelude.{◌≡◌, ℕ, List, map, Option, None}
use Rattle.cip_problem.specs.Program.{Program}
use Rattle.cip_text_rules.specs.MpsRules.{least}
use Rattle.cip_text_rules.specs.LineTexts.{Reading}
use Rattle.cip_problem.specs.BlockParts.{Blocks}
use Rattle.cip_text_rules.specs.BlockWords.{WordSaying}
use Rattle.cip_text_rules.specs.BlockSteps.{BlockState, block_tests, state_with, block_steps}
use Rattle.cip_blocks.specs.declared.block_words.BlockWords.{BlockWords}
use Rattle.cip_blocks.specs.WordPlaces.{place_shown, row_shown}

-- the program whose rows are named
abbrev pub program_of : BlockWords → Program
program_of words = words.program.now

-- the state behind the words
abbrev pub state_of : BlockWords → BlockState
state_of words = record {
  place = place_shown words.place;
  count = words.count;
  begun = words.begun.items;
  rows = map row_shown words.rows.items;
}

-- how the text is read
abbrev pub steps_of : BlockWords → Reading BlockState (List ℕ) Blocks
steps_of words = block_steps (program_of words)

-- a word has the least kind of its tests; without fault what it says is put
pub record IsTaken (program : Program) (old new : BlockState) (now : WordSaying) (kind : Option ℕ) : Type 0 where
  pub is_kind : kind ≡ least (block_tests program old now)
  pub taken : kind ≡ None → new ≡ state_with program old now
