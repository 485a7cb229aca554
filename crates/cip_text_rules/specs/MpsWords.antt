-- The words of free MPS: sections, senses, types of rows and bounds, markers, numbers and names.
use lib.Chars.{codes}
use Rattle.std.specs.Prelude.{ℕ, suc, ◌*◌, ◌^◌, nat_le, Bool, true, false, not, ◌&&◌, if◌then◌else◌, List, [], ◌∷◌, Option, None, Some, is_some}
use Rattle.std.specs.Str.{bytes_eq, str_to_ascii_lowercase}
use Rattle.cip_rational.specs.Numeral.{Numeral, Exact, NotANumber, Huge, TooFine, is_minus, without_sign, numeral_of}

-- ---- names

-- the number that follows, if there is one
abbrev pub next : Option ℕ → Option ℕ
next None = None
next (Some k) = Some (suc k)

-- the number of a name: its first place in a list, counted from 0
abbrev pub number_in : List (List ℕ) → List ℕ → Option ℕ
number_in [] name = None
number_in (other ∷ others) name = if bytes_eq name other then Some 0 else next (number_in others name)

-- a name stands in a list
abbrev pub is_in : List (List ℕ) → List ℕ → Bool
is_in names name = is_some (number_in names name)

-- a word and what it means
pub record Word (X : Type 0) : Type 0 where
  pub text : List ℕ
  pub meaning : X

-- what a word means by a list of words, if it is one of them
abbrev pub meaning_in : {X : Type 0} → List (Word X) → List ℕ → Option X
meaning_in [] text = None
meaning_in (word ∷ words) text = if bytes_eq text word.text then Some word.meaning else meaning_in words text

-- ---- sections

-- the sections of a text; it begins in none of them
pub data Part : Type 0 where
  NoPart : Part
  Title : Part
  Sense : Part
  Rows : Part
  Columns : Part
  RightSides : Part
  Ranges : Part
  Bounds : Part
  End : Part

-- the eight words of sections
abbrev pub section_words : List (Word Part)
section_words =
    record { text = codes "NAME"; meaning = Title } ∷ record { text = codes "OBJSENSE"; meaning = Sense }
    ∷ record { text = codes "ROWS"; meaning = Rows } ∷ record { text = codes "COLUMNS"; meaning = Columns }
    ∷ record { text = codes "RHS"; meaning = RightSides } ∷ record { text = codes "RANGES"; meaning = Ranges }
    ∷ record { text = codes "BOUNDS"; meaning = Bounds } ∷ record { text = codes "ENDATA"; meaning = End } ∷ []

-- the section of this word
abbrev pub section_of : List ℕ → Option Part
section_of word = meaning_in section_words word

-- a section's place in the order of sections: those with one number may stand in any order
abbrev pub rank : Part → ℕ
rank NoPart = 0
rank Title = 1
rank Sense = 1
rank Rows = 2
rank Columns = 3
rank RightSides = 4
rank Ranges = 4
rank Bounds = 4
rank End = 5

-- a number of its own for each section
abbrev pub part_number : Part → ℕ
part_number NoPart = 0
part_number Title = 1
part_number Sense = 2
part_number Rows = 3
part_number Columns = 4
part_number RightSides = 5
part_number Ranges = 6
part_number Bounds = 7
part_number End = 8

-- ---- senses

-- the four words of senses
abbrev pub sense_words : List (Word Bool)
sense_words =
    record { text = codes "min"; meaning = false } ∷ record { text = codes "max"; meaning = true }
    ∷ record { text = codes "minimize"; meaning = false } ∷ record { text = codes "maximize"; meaning = true } ∷ []

-- whether a sense maximises; its letters may be large or small
abbrev pub sense_of : List ℕ → Option Bool
sense_of word = meaning_in sense_words (str_to_ascii_lowercase word)

-- ---- types of rows

-- N, a row without sides; L, at most its right-hand side; G, at least that; and E, equal to it
pub data RowKind : Type 0 where
  Free : RowKind
  AtMost : RowKind
  AtLeast : RowKind
  EqualTo : RowKind

-- the four types of rows
abbrev pub row_words : List (Word RowKind)
row_words =
    record { text = codes "N"; meaning = Free } ∷ record { text = codes "L"; meaning = AtMost }
    ∷ record { text = codes "G"; meaning = AtLeast } ∷ record { text = codes "E"; meaning = EqualTo } ∷ []

-- the type of a row
abbrev pub row_kind_of : List ℕ → Option RowKind
row_kind_of word = meaning_in row_words word

-- ---- markers

-- the words of markers, with quotes or without
abbrev pub marker_words : List (Word Bool)
marker_words =
    record { text = codes "INTORG"; meaning = true } ∷ record { text = codes "'INTORG'"; meaning = true }
    ∷ record { text = codes "INTEND"; meaning = false } ∷ record { text = codes "'INTEND'"; meaning = false } ∷ []

-- whether a marker begins the whole columns, or ends them
abbrev pub marker_of : List ℕ → Option Bool
marker_of word = meaning_in marker_words word

-- ---- types of bounds

-- LO, UP, FX, LI, UI, FR, MI, PL, BV and SC
pub data BoundKind : Type 0 where
  Low : BoundKind
  High : BoundKind
  Fixed : BoundKind
  WholeLow : BoundKind
  WholeHigh : BoundKind
  Unbounded : BoundKind
  NoLow : BoundKind
  NoHigh : BoundKind
  Binary : BoundKind
  SemiContinuous : BoundKind

-- the ten types of bounds
abbrev pub bound_words : List (Word BoundKind)
bound_words =
    record { text = codes "LO"; meaning = Low } ∷ record { text = codes "UP"; meaning = High }
    ∷ record { text = codes "FX"; meaning = Fixed } ∷ record { text = codes "LI"; meaning = WholeLow }
    ∷ record { text = codes "UI"; meaning = WholeHigh } ∷ record { text = codes "FR"; meaning = Unbounded }
    ∷ record { text = codes "MI"; meaning = NoLow } ∷ record { text = codes "PL"; meaning = NoHigh }
    ∷ record { text = codes "BV"; meaning = Binary } ∷ record { text = codes "SC"; meaning = SemiContinuous } ∷ []

-- the type of a bound
abbrev pub bound_kind_of : List ℕ → Option BoundKind
bound_kind_of word = meaning_in bound_words word

-- a bound of this type has a value; FR, MI, PL and BV have none
abbrev pub has_value : BoundKind → Bool
has_value Unbounded = false
has_value NoLow = false
has_value NoHigh = false
has_value Binary = false
has_value other = true

-- ---- numbers

-- a number is 0
abbrev pub is_zero : Numeral → Bool
is_zero (Exact negative size below) = nat_le size 0
is_zero other = false

-- a number is below 0
abbrev pub is_negative : Numeral → Bool
is_negative (Exact negative size below) = negative
is_negative (Huge negative) = negative
is_negative other = false

-- a number is above 0, and has a value
abbrev pub is_positive : Numeral → Bool
is_positive (Exact negative size below) = not negative && not (nat_le size 0)
is_positive other = false

-- a text that says no number
abbrev pub is_no_number : Numeral → Bool
is_no_number NotANumber = true
is_no_number other = false

-- a number above 2^127-1 in size
abbrev pub is_huge : Numeral → Bool
is_huge (Huge negative) = true
is_huge other = false

-- a number that needs too many digits
abbrev pub is_too_fine : Numeral → Bool
is_too_fine TooFine = true
is_too_fine other = false

-- infinity is written so, in letters large or small, with a sign or none
abbrev pub infinity_words : List (List ℕ)
infinity_words = codes "inf" ∷ codes "infinity" ∷ []

-- a text that says infinity
abbrev pub is_infinity : List ℕ → Bool
is_infinity text = is_in infinity_words (str_to_ascii_lowercase (without_sign text))

-- a bound of size 10^20 or more is none, as one above 2^127-1
abbrev pub near_or_huge : Numeral → Numeral
near_or_huge (Exact negative size below) =
    if nat_le (10 ^ 20 * below) size then Huge negative else Exact negative size below
near_or_huge other = other

-- the value of a bound; `Huge` says that there is no bound on that side
abbrev pub bound_number : List ℕ → Numeral
bound_number text = if is_infinity text then Huge (is_minus text) else near_or_huge (numeral_of text)
