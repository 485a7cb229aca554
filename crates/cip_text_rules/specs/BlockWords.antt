-- The words of a text of blocks: `PRESOLVED 0`; `NBLOCKS` and how many blocks there are; `BLOCK`, its number, and the
-- names of its rows; `MASTERCONSS` and names of master rows.
--     word_said place word      what a word says where it stands
use lib.Chars.{codes}
use Rattle.std.specs.Prelude.{ℕ, zero, suc, if◌then◌else◌, List, [], ◌∷◌, Option, None, Some}
use Rattle.std.specs.Str.{bytes_eq}
use Rattle.cip_text_rules.specs.Lines.{Record, record_of}
use Rattle.cip_rational.specs.Numeral.{are_digits, digits_value}
use Rattle.cip_text_rules.specs.MpsWords.{Word, meaning_in}
use Rattle.cip_text_rules.specs.LineTexts.{words_in}

-- ---- words

-- the words of a line, if it has any
abbrev pub words_of : Option Record → List (List ℕ)
words_of None = []
words_of (Some content) = words_in content

-- empty lines, lines of blanks and lines that begin with `\` have no words
abbrev pub line_words : List ℕ → List (List ℕ)
line_words line = words_of (record_of 92 line)

-- the four words that are never names
pub data Keyword : Type 0 where
  Presolved : Keyword
  BlockCount : Keyword
  Block : Keyword
  Master : Keyword

-- the four words
abbrev pub keywords : List (Word Keyword)
keywords =
    record { text = codes "PRESOLVED"; meaning = Presolved } ∷ record { text = codes "NBLOCKS"; meaning = BlockCount }
    ∷ record { text = codes "BLOCK"; meaning = Block } ∷ record { text = codes "MASTERCONSS"; meaning = Master } ∷ []

-- digits alone, as a number; there may be zeros in front
abbrev pub number_word : List ℕ → Option ℕ
number_word word = if are_digits word then Some (digits_value word) else None

-- ---- places

-- where a word stands: one of the four words is due; the 0 behind PRESOLVED is; the number behind NBLOCKS or BLOCK is;
-- or names of rows may stand, of the block with this number, counted from 0, or of master rows
pub data WordPlace : Type 0 where
  KeywordDue : WordPlace
  ZeroDue : WordPlace
  CountDue : WordPlace
  BlockDue : WordPlace
  NamesOf : (block : Option ℕ) → WordPlace

-- ---- what a word says

-- one of the four words; a word out of place; 0 behind PRESOLVED; a number behind NBLOCKS or BLOCK, or another word
-- there; or the name of a row of a block or of a master row
pub data WordSaying : Type 0 where
  Opens : (keyword : Keyword) → WordSaying
  OutOfPlace : WordSaying
  Zero : WordSaying
  Count : (number : Option ℕ) → WordSaying
  Number : (number : Option ℕ) → WordSaying
  RowName : (block : Option ℕ) (name : List ℕ) → WordSaying

-- one of the four words can't stand where a number is due
abbrev pub keyword_said : WordPlace → Keyword → WordSaying
keyword_said KeywordDue keyword = Opens keyword
keyword_said (NamesOf block) keyword = Opens keyword
keyword_said other keyword = OutOfPlace

-- any other word is a number where one is due, and else a name
abbrev pub other_said : WordPlace → List ℕ → WordSaying
other_said KeywordDue word = OutOfPlace
other_said ZeroDue word = if bytes_eq word (codes "0") then Zero else OutOfPlace
other_said CountDue word = Count (number_word word)
other_said BlockDue word = Number (number_word word)
other_said (NamesOf block) word = RowName block word

-- what a word says that is this one of the four, or none of them
abbrev pub meaning_said : Option Keyword → WordPlace → List ℕ → WordSaying
meaning_said (Some keyword) place word = keyword_said place keyword
meaning_said None place word = other_said place word

-- what a word says where it stands
abbrev pub word_said : WordPlace → List ℕ → WordSaying
word_said place word = meaning_said (meaning_in keywords word) place word

-- where the word behind one of the four stands
abbrev pub place_behind : Keyword → WordPlace
place_behind Presolved = ZeroDue
place_behind BlockCount = CountDue
place_behind Block = BlockDue
place_behind Master = NamesOf None

-- the block with a number that counts from 1, by its number from 0
abbrev pub from_zero : Option ℕ → Option ℕ
from_zero None = None
from_zero (Some zero) = None
from_zero (Some (suc k)) = Some k

-- where the next word stands
abbrev pub next_place : WordSaying → WordPlace
next_place (Opens keyword) = place_behind keyword
next_place (Number number) = NamesOf (from_zero number)
next_place (RowName block name) = NamesOf block
next_place other = KeywordDue
