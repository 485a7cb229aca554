-- What a line of free MPS says, by the section that it stands in: nothing else of the lines before it counts here.
--     said place record      what a record says at a place of the text
--     place_after place saying      where the next record stands
use lib.Chars.{codes}
use Rattle.std.specs.Prelude.{ℕ, Bool, true, false, ◌&&◌, ◌||◌, if◌then◌else◌, List, [], ◌∷◌, Option, None, Some, is_some}
use Rattle.std.specs.Str.{bytes_eq}
use Rattle.cip_rational.specs.Numeral.{Numeral, Exact, numeral_of}
use Rattle.cip_text_rules.specs.Lines.{Record, Section, Entry}
use Rattle.cip_text_rules.specs.MpsWords.{Part, NoPart, Title, Sense, Rows, Columns, RightSides, Ranges, Bounds, End, RowKind, BoundKind, section_of, row_kind_of, bound_kind_of, marker_of, has_value, bound_number}

-- a row's name and a number for it
pub record Value : Type 0 where
  pub row : List ℕ
  pub number : Numeral

-- what a line says
pub data Saying : Type 0 where
  -- a section line: its word isn't one of the eight; or it opens a section, with these words behind its own
  UnknownSection : Saying
  Opens : (part : Part) (words : List (List ℕ)) → Saying
  -- a line of fields where none may stand, one with a wrong number of fields, and one of another set than the first
  Misplaced : Saying
  Miscounted : Saying
  Skipped : Saying
  -- the lines of fields of each section; the type of a row is none where it isn't one of the four
  SenseLine : (word : List ℕ) → Saying
  RowLine : (kind : Option RowKind) (name : List ℕ) → Saying
  ColumnLine : (column : List ℕ) (whole : Bool) (values : List Value) → Saying
  Marker : (begins : Bool) → Saying
  BadMarker : Saying
  RightSideLine : (set_name : List ℕ) (values : List Value) → Saying
  RangeLine : (set_name : List ℕ) (values : List Value) → Saying
  BoundLine : (kind : BoundKind) (set_name column : List ℕ) (value : Numeral) → Saying
  BadBound : Saying

-- where a line stands: the section, whether that has said a sense, whether markers make columns whole, and the set
-- that was met first in the section
pub record LinePlace : Type 0 where
  pub part : Part
  pub sensed : Bool
  pub whole : Bool
  pub set_name : Option (List ℕ)

-- ---- section lines

-- a section line with this section, if there is one
abbrev pub opening : Option Part → List (List ℕ) → Saying
opening None words = UnknownSection
opening (Some part) words = Opens part words

-- what the words of a section line say
abbrev pub section_said : List (List ℕ) → Saying
section_said [] = UnknownSection
section_said (word ∷ words) = opening (section_of word) words

-- ---- lines of OBJSENSE and ROWS

-- MIN, MAX, MINIMIZE or MAXIMIZE
abbrev pub sense_said : List (List ℕ) → Saying
sense_said (word ∷ []) = SenseLine word
sense_said words = Miscounted

-- `type name`
abbrev pub row_said : List (List ℕ) → Saying
row_said (kind ∷ name ∷ []) = RowLine (row_kind_of kind) name
row_said words = Miscounted

-- ---- lines of COLUMNS

-- a row and the number that a text says for it
abbrev pub value_said : (row text : List ℕ) → Value
value_said row text = record { row = row; number = numeral_of text }

-- the one value of a line
abbrev pub one_value : (row text : List ℕ) → List Value
one_value row text = value_said row text ∷ []

-- the two values of a line
abbrev pub two_values : (row text other_row other_text : List ℕ) → List Value
two_values row text other_row other_text = value_said row text ∷ value_said other_row other_text ∷ []

-- the second of three fields is `'MARKER'`, or is `MARKER` before a word that begins or ends whole columns
abbrev pub is_marker : (second third : List ℕ) → Bool
is_marker second third =
    bytes_eq second (codes "'MARKER'") || (bytes_eq second (codes "MARKER") && is_some (marker_of third))

-- a marker whose third field means this
abbrev pub marker_said : Option Bool → Saying
marker_said None = BadMarker
marker_said (Some begins) = Marker begins

-- `column row value [row value]`, or a marker
abbrev pub column_said : Bool → List (List ℕ) → Saying
column_said whole (column ∷ row ∷ text ∷ []) =
    if is_marker row text then marker_said (marker_of text) else ColumnLine column whole (one_value row text)
column_said whole (column ∷ row ∷ text ∷ other_row ∷ other_text ∷ []) =
    ColumnLine column whole (two_values row text other_row other_text)
column_said whole words = Miscounted

-- ---- lines of RHS and RANGES

-- a line of another set than the first says nothing
abbrev pub of_set : Option (List ℕ) → List ℕ → Saying → Saying
of_set None set_name saying = saying
of_set (Some first) set_name saying = if bytes_eq first set_name then saying else Skipped

-- `[set] row value [row value]`; where no set is named it is the set without a name
abbrev pub right_side_said : Option (List ℕ) → List (List ℕ) → Saying
right_side_said first (row ∷ text ∷ []) = of_set first [] (RightSideLine [] (one_value row text))
right_side_said first (set_name ∷ row ∷ text ∷ []) =
    of_set first set_name (RightSideLine set_name (one_value row text))
right_side_said first (row ∷ text ∷ other_row ∷ other_text ∷ []) =
    of_set first [] (RightSideLine [] (two_values row text other_row other_text))
right_side_said first (set_name ∷ row ∷ text ∷ other_row ∷ other_text ∷ []) =
    of_set first set_name (RightSideLine set_name (two_values row text other_row other_text))
right_side_said first words = Miscounted

-- a line of RANGES has the same form
abbrev pub range_said : Option (List ℕ) → List (List ℕ) → Saying
range_said first (row ∷ text ∷ []) = of_set first [] (RangeLine [] (one_value row text))
range_said first (set_name ∷ row ∷ text ∷ []) = of_set first set_name (RangeLine set_name (one_value row text))
range_said first (row ∷ text ∷ other_row ∷ other_text ∷ []) =
    of_set first [] (RangeLine [] (two_values row text other_row other_text))
range_said first (set_name ∷ row ∷ text ∷ other_row ∷ other_text ∷ []) =
    of_set first set_name (RangeLine set_name (two_values row text other_row other_text))
range_said first words = Miscounted

-- ---- lines of BOUNDS

-- of a type without a value: `[set] column`, or `set column value`, where the value isn't looked at
abbrev pub no_value : Numeral
no_value = Exact false 0 1

-- `type [set] column value`
abbrev pub valued_bound : Option (List ℕ) → BoundKind → List (List ℕ) → Saying
valued_bound first kind (column ∷ text ∷ []) = of_set first [] (BoundLine kind [] column (bound_number text))
valued_bound first kind (set_name ∷ column ∷ text ∷ []) =
    of_set first set_name (BoundLine kind set_name column (bound_number text))
valued_bound first kind words = Miscounted

-- `type column`, `type set column` or `type set column value`; the value isn't looked at
abbrev pub plain_bound : Option (List ℕ) → BoundKind → List (List ℕ) → Saying
plain_bound first kind (column ∷ []) = of_set first [] (BoundLine kind [] column no_value)
plain_bound first kind (set_name ∷ column ∷ []) = of_set first set_name (BoundLine kind set_name column no_value)
plain_bound first kind (set_name ∷ column ∷ text ∷ []) =
    of_set first set_name (BoundLine kind set_name column no_value)
plain_bound first kind words = Miscounted

-- a bound of this type, if it is one
abbrev pub typed_bound : Option (List ℕ) → Option BoundKind → List (List ℕ) → Saying
typed_bound first None words = BadBound
typed_bound first (Some kind) words =
    if has_value kind then valued_bound first kind words else plain_bound first kind words

-- a line of BOUNDS
abbrev pub bound_said : Option (List ℕ) → List (List ℕ) → Saying
bound_said first [] = Miscounted
bound_said first (kind ∷ words) = typed_bound first (bound_kind_of kind) words

-- ---- any line

-- what fields say in a section: none may stand before the first section, under NAME, and after a sense
abbrev pub fields_said : Part → LinePlace → List (List ℕ) → Saying
fields_said NoPart place words = Misplaced
fields_said Title place words = Misplaced
fields_said Sense place words = if place.sensed then Misplaced else sense_said words
fields_said Rows place words = row_said words
fields_said Columns place words = column_said place.whole words
fields_said RightSides place words = right_side_said place.set_name words
fields_said Ranges place words = range_said place.set_name words
fields_said Bounds place words = bound_said place.set_name words
fields_said End place words = Misplaced

-- what a record says
abbrev pub said : LinePlace → Record → Saying
said place (Section words) = section_said words
said place (Entry words) = fields_said place.part place words

-- ---- places

-- a text begins in no section
abbrev pub no_place : LinePlace
no_place = record { part = NoPart; sensed = false; whole = false; set_name = None }

-- there is a word
abbrev pub has_words : List (List ℕ) → Bool
has_words [] = false
has_words (word ∷ words) = true

-- where the next record stands. A section line of OBJSENSE may have the sense itself
abbrev pub place_after : LinePlace → Saying → LinePlace
place_after place (Opens part words) =
    record { part = part; sensed = has_words words; whole = place.whole; set_name = None }
place_after place (SenseLine word) = record place { sensed = true }
place_after place (Marker begins) = record place { whole = begins }
place_after place (RightSideLine set_name values) = record place { set_name = Some set_name }
place_after place (RangeLine set_name values) = record place { set_name = Some set_name }
place_after place (BoundLine kind set_name column value) = record place { set_name = Some set_name }
place_after place other = place
