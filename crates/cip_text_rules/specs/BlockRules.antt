-- What is wrong with a text of blocks, one rule for each kind of fault.
--     block_reading program      how such a text is read against a program
use Rattle.std.specs.Prelude.{ℕ, nat_lt, nat_le, Bool, true, false, not, ◌&&◌, ◌||◌, List, [], ◌∷◌, ◌++◌, Option, None, Some, is_some, is_none, unwrap_or}
use Rattle.std.specs.List.{list_any}
use Rattle.cip_problem.specs.Program.{Program}
use Rattle.cip_problem.specs.WellFormed.{columns}
use Rattle.cip_text_rules.specs.MpsWords.{is_in}
use Rattle.cip_text_rules.specs.MpsRules.{Rule, rule, least}
use Rattle.cip_text_rules.specs.LineTexts.{Reading}
use Rattle.cip_text_rules.specs.BlockWords.{BlockCount, Block, WordPlace, KeywordDue, ZeroDue, CountDue, BlockDue, WordSaying, Opens, OutOfPlace, Count, Number, RowName, line_words, word_said, next_place, from_zero}
use Rattle.cip_problem.specs.BlockParts.{most_blocks, Blocks, numbers_from, has_number, is_linking, is_open, blocks_of}
use Rattle.cip_text_rules.specs.NamedRows.{NamedRow, is_named, row_blocks}

-- ---- what is known

-- where the next word stands, how many blocks there are, if that was said, the blocks begun by their numbers from 0,
-- and the rows named, in the order of the text
pub record BlockFacts : Type 0 where
  pub place : WordPlace
  pub count : Option ℕ
  pub begun : List ℕ
  pub named : List NamedRow

-- before the first word nothing has been said
abbrev pub no_blocks : BlockFacts
no_blocks = record { place = KeywordDue; count = None; begun = []; named = [] }

-- the number of blocks that a word says
abbrev pub count_with : Option ℕ → WordSaying → Option ℕ
count_with count (Count number) = number
count_with count other = count

-- the block that a word begins
abbrev pub begun_in : Option ℕ → List ℕ
begun_in None = []
begun_in (Some block) = block ∷ []

-- the blocks begun behind a word
abbrev pub begun_with : List ℕ → WordSaying → List ℕ
begun_with begun (Number number) = begun ++ begun_in (from_zero number)
begun_with begun other = begun

-- the row that a word names
abbrev pub named_with : List NamedRow → WordSaying → List NamedRow
named_with named (RowName block name) = named ++ record { name = name; block = block } ∷ []
named_with named other = named

-- the facts, and what one more word says
abbrev pub blocks_with_saying : BlockFacts → WordSaying → BlockFacts
blocks_with_saying facts now = record {
  place = next_place now;
  count = count_with facts.count now;
  begun = begun_with facts.begun now;
  named = named_with facts.named now;
}

-- ---- the rules of a word

-- a word out of place; NBLOCKS again; BLOCK before NBLOCKS
abbrev pub is_bad_word : Option ℕ → WordSaying → Bool
is_bad_word count OutOfPlace = true
is_bad_word count (Opens BlockCount) = is_some count
is_bad_word count (Opens Block) = is_none count
is_bad_word count other = false

-- behind NBLOCKS no number from 1 to 4,096
abbrev pub is_bad_count : WordSaying → Bool
is_bad_count (Count None) = true
is_bad_count (Count (Some number)) = not (nat_lt 0 number && nat_le number most_blocks)
is_bad_count other = false

-- a block, by its number from 0, that isn't one of so many, or was begun before
abbrev pub is_no_block : (count : ℕ) → (begun : List ℕ) → Option ℕ → Bool
is_no_block count begun None = true
is_no_block count begun (Some block) = not (nat_lt block count) || has_number begun block

-- behind BLOCK no number from 1 to that of blocks, or one again
abbrev pub is_bad_block : Option ℕ → (begun : List ℕ) → WordSaying → Bool
is_bad_block count begun (Number number) = is_no_block (unwrap_or count 0) begun (from_zero number)
is_bad_block count begun other = false

-- a name that no row of the program has
abbrev pub is_unknown_row : (rows : List (List ℕ)) → WordSaying → Bool
is_unknown_row rows (RowName block name) = not (is_in rows name)
is_unknown_row rows other = false

-- a row that was named before
abbrev pub is_row_again : List NamedRow → WordSaying → Bool
is_row_again named (RowName block name) = is_named named name
is_row_again named other = false

-- the rules of a word, by rising kind
abbrev pub block_rules : Program → BlockFacts → WordSaying → List Rule
block_rules program facts now =
    rule 1 (is_bad_word facts.count now)
    ∷ rule 2 (is_bad_count now)
    ∷ rule 3 (is_bad_block facts.count facts.begun now)
    ∷ rule 4 (is_unknown_row program.row_names now)
    ∷ rule 5 (is_row_again facts.named now)
    ∷ []

-- ---- the rules behind the last line

-- the 0 behind PRESOLVED is still due
abbrev pub lacks_zero : WordPlace → Bool
lacks_zero ZeroDue = true
lacks_zero other = false

-- the number behind NBLOCKS is still due
abbrev pub lacks_count : WordPlace → Bool
lacks_count CountDue = true
lacks_count other = false

-- the number behind BLOCK is still due
abbrev pub lacks_number : WordPlace → Bool
lacks_number BlockDue = true
lacks_number other = false

-- how many blocks there are, 0 where that wasn't said
abbrev pub block_count : BlockFacts → ℕ
block_count facts = unwrap_or facts.count 0

-- there is no NBLOCKS, or a block that wasn't begun
abbrev pub lacks_block : BlockFacts → Bool
lacks_block facts =
    is_none facts.count
    || list_any (λ block. not (has_number facts.begun block)) (numbers_from 0 (block_count facts))

-- a column of the program has entries in two blocks
abbrev pub has_linking : Program → BlockFacts → Bool
has_linking program facts =
    list_any (is_linking program (block_count facts) (row_blocks program facts.named))
    (numbers_from 0 (columns program))

-- a column of a block lacks a bound
abbrev pub has_open : Program → BlockFacts → Bool
has_open program facts =
    list_any (is_open program (block_count facts) (row_blocks program facts.named)) (numbers_from 0 (columns program))

-- the rules behind the last line, by rising kind
abbrev pub block_end_rules : Program → BlockFacts → List Rule
block_end_rules program facts =
    rule 1 (lacks_zero facts.place)
    ∷ rule 2 (lacks_count facts.place)
    ∷ rule 3 (lacks_number facts.place)
    ∷ rule 6 (has_linking program facts)
    ∷ rule 7 (has_open program facts)
    ∷ rule 8 (lacks_block facts)
    ∷ []

-- ---- texts

-- the least kind that a word breaks
abbrev pub block_fault : Program → BlockFacts → List ℕ → Option ℕ
block_fault program facts word = least (block_rules program facts (word_said facts.place word))

-- the facts behind a word
abbrev pub block_facts_with : BlockFacts → List ℕ → BlockFacts
block_facts_with facts word = blocks_with_saying facts (word_said facts.place word)

-- the least kind that is broken behind the last line
abbrev pub block_end_fault : Program → BlockFacts → Option ℕ
block_end_fault program facts = least (block_end_rules program facts)

-- how a text of blocks is read; kind 9 is that of a text that is too long
abbrev pub block_reading : Program → Reading BlockFacts (List ℕ) Blocks
block_reading program = record {
  items = line_words;
  start = no_blocks;
  fault = block_fault program;
  next = block_facts_with;
  end_fault = block_end_fault program;
  result = λ facts. blocks_of program (block_count facts) (row_blocks program facts.named);
  long = 9;
}
