-- A reader of texts of blocks on plain values: it keeps where the next word stands, how many blocks there are and which
-- were begun, and a place for each row of the program.
--     block_steps program      how such a text is read so
use Rattle.std.specs.Prelude.{ℕ, Bool, true, false, not, ◌||◌, List, [], ◌∷◌, length, map, Option, None, Some, is_none, unwrap_or, replicate, slice_index_or, slice_set}
use Rattle.std.specs.List.{list_any}
use Rattle.cip_problem.specs.Program.{Program}
use Rattle.cip_problem.specs.WellFormed.{columns}
use Rattle.cip_text_rules.specs.MpsWords.{number_in}
use Rattle.cip_text_rules.specs.MpsRules.{Rule, rule, least}
use Rattle.cip_text_rules.specs.LineTexts.{Reading}
use Rattle.cip_text_rules.specs.BlockWords.{WordPlace, KeywordDue, WordSaying, Count, Number, RowName, line_words, word_said, next_place, from_zero}
use Rattle.cip_problem.specs.BlockParts.{Blocks, numbers_from, is_linking, is_open, blocks_of}
use Rattle.cip_text_rules.specs.BlockRules.{is_bad_word, is_bad_count, is_unknown_row, count_with, lacks_zero, lacks_count, lacks_number}

-- ---- what is kept

-- a row of the program wasn't named, or was as a master row or as one of a block
pub data RowPlace : Type 0 where
  Unnamed : RowPlace
  OfMaster : RowPlace
  OfBlock : (block : ℕ) → RowPlace

-- the place of a row that is named for a block, or for none
abbrev pub place_of : Option ℕ → RowPlace
place_of None = OfMaster
place_of (Some block) = OfBlock block

-- the block of a row, if it has one
abbrev pub block_at : RowPlace → Option ℕ
block_at Unnamed = None
block_at OfMaster = None
block_at (OfBlock block) = Some block

-- a row was named
abbrev pub is_placed : RowPlace → Bool
is_placed Unnamed = false
is_placed other = true

-- where the next word stands, how many blocks there are, if that was said, which of them were begun, and the place of
-- each row of the program
pub record BlockState : Type 0 where
  pub place : WordPlace
  pub count : Option ℕ
  pub begun : List Bool
  pub rows : List RowPlace

-- before the first word
abbrev pub no_state : Program → BlockState
no_state program = record {
  place = KeywordDue;
  count = None;
  begun = [];
  rows = replicate (length program.row_names) Unnamed;
}

-- ---- tests

-- a block, by its number from 0, that isn't one of those or was begun
abbrev pub is_taken : List Bool → Option ℕ → Bool
is_taken begun None = true
is_taken begun (Some block) = slice_index_or begun block true

-- such a number behind BLOCK
abbrev pub is_taken_block : List Bool → WordSaying → Bool
is_taken_block begun (Number number) = is_taken begun (from_zero number)
is_taken_block begun other = false

-- the place of a row by its number
abbrev pub row_place : List RowPlace → Option ℕ → RowPlace
row_place rows None = Unnamed
row_place rows (Some k) = slice_index_or rows k Unnamed

-- a row that has its place
abbrev pub is_placed_again : (names : List (List ℕ)) → List RowPlace → WordSaying → Bool
is_placed_again names rows (RowName block name) = is_placed (row_place rows (number_in names name))
is_placed_again names rows other = false

-- the tests of a word, by rising kind
abbrev pub block_tests : Program → BlockState → WordSaying → List Rule
block_tests program state now =
    rule 1 (is_bad_word state.count now)
    ∷ rule 2 (is_bad_count now)
    ∷ rule 3 (is_taken_block state.begun now)
    ∷ rule 4 (is_unknown_row program.row_names now)
    ∷ rule 5 (is_placed_again program.row_names state.rows now)
    ∷ []

-- the tests of a name, in the order in which code makes them
abbrev pub name_tests : Program → BlockState → (name : List ℕ) → List Rule
name_tests program state name =
    rule 4 (is_none (number_in program.row_names name))
    ∷ rule 5 (is_placed (row_place state.rows (number_in program.row_names name)))
    ∷ []

-- ---- puts

-- a block is begun
abbrev pub begin_block : List Bool → Option ℕ → List Bool
begin_block begun None = begun
begin_block begun (Some block) = slice_set begun block true

-- which blocks are begun behind a word: none, once their number is known
abbrev pub begun_after : List Bool → WordSaying → List Bool
begun_after begun (Count (Some count)) = replicate count false
begun_after begun (Number number) = begin_block begun (from_zero number)
begun_after begun other = begun

-- a row gets its place
abbrev pub put_row : List RowPlace → Option ℕ → RowPlace → List RowPlace
put_row rows None place = rows
put_row rows (Some k) place = slice_set rows k place

-- the places of the rows behind a word
abbrev pub rows_after : (names : List (List ℕ)) → List RowPlace → WordSaying → List RowPlace
rows_after names rows (RowName block name) = put_row rows (number_in names name) (place_of block)
rows_after names rows other = rows

-- the state behind what a word without fault says
abbrev pub state_with : Program → BlockState → WordSaying → BlockState
state_with program state now = record {
  place = next_place now;
  count = count_with state.count now;
  begun = begun_after state.begun now;
  rows = rows_after program.row_names state.rows now;
}

-- ---- the end

-- how many blocks there are, 0 where that wasn't said
abbrev pub count_of : BlockState → ℕ
count_of state = unwrap_or state.count 0

-- the block of each row
abbrev pub blocks_at : BlockState → List (Option ℕ)
blocks_at state = map block_at state.rows

-- the tests behind the last line, by rising kind
abbrev pub block_end_tests : Program → BlockState → List Rule
block_end_tests program state =
    rule 1 (lacks_zero state.place)
    ∷ rule 2 (lacks_count state.place)
    ∷ rule 3 (lacks_number state.place)
    ∷ rule 6 (list_any (is_linking program (count_of state) (blocks_at state)) (numbers_from 0 (columns program)))
    ∷ rule 7 (list_any (is_open program (count_of state) (blocks_at state)) (numbers_from 0 (columns program)))
    ∷ rule 8 (is_none state.count || list_any not state.begun)
    ∷ []

-- how a text of blocks is read on plain values
abbrev pub block_steps : Program → Reading BlockState (List ℕ) Blocks
block_steps program = record {
  items = line_words;
  start = no_state program;
  fault = λ state word. least (block_tests program state (word_said state.place word));
  next = λ state word. state_with program state (word_said state.place word);
  end_fault = λ state. least (block_end_tests program state);
  result = λ state. blocks_of program (count_of state) (blocks_at state);
  long = 9;
}
