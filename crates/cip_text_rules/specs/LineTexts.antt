-- Texts that are read line by line: a line holds items, and an item has a fault, or adds to what is known.
--     outcome_of reading text      what a text comes to: its result, or its first fault
--     HasResult reading text value, HasFault reading text line kind
use Rattle.std.specs.Prelude.{◌≡◌, ℕ, ◌+◌, ◌==◌, nat_lt, nat_le, ◌&&◌, ◌||◌, if◌then◌else◌, List, [], ◌∷◌, ◌++◌, length, map, take, Option, None, Some}
use Rattle.cip_problem.specs.Limits.{longest_text}
use Rattle.cip_text_rules.specs.Lines.{Record, Section, Entry, lines, record_of}

-- a way to read texts: what a line holds; what is known before the first item; the kind of the fault of an item, if it
-- has one, by what is known; what is known behind an item without fault; the kind of the fault behind the last line, if
-- there is one; what a text without fault means; and the kind of the fault of a text that is too long
pub record Reading (K I X : Type 0) : Type 0 where
  pub items : List ℕ → List I
  pub start : K
  pub fault : K → I → Option ℕ
  pub next : K → I → K
  pub end_fault : K → Option ℕ
  pub result : K → X
  pub long : ℕ

-- a result, or the line and the kind of a fault
pub data Outcome (X : Type 0) : Type 0 where
  Means : (value : X) → Outcome X
  Faulty : (line kind : ℕ) → Outcome X

-- ---- items

-- the record of a line as its items, where there is one
abbrev pub records_in : Option Record → List Record
records_in None = []
records_in (Some content) = content ∷ []

-- the records of a line, for a text of which lines that begin with this byte are comments
abbrev pub records_of : (comment : ℕ) → List ℕ → List Record
records_of comment line = records_in (record_of comment line)

-- the words of a line of a text that has no sections
abbrev pub words_in : Record → List (List ℕ)
words_in (Section words) = words
words_in (Entry words) = words

-- an item, and the number of its line, counted from 1
pub record Numbered (I : Type 0) : Type 0 where
  pub line : ℕ
  pub item : I

-- an item of this line
abbrev pub numbered : {I : Type 0} → ℕ → I → Numbered I
numbered line item = record { line = line; item = item }

-- the items of lines, the first of which has this number
abbrev pub items_from : {I : Type 0} → (List ℕ → List I) → ℕ → List (List ℕ) → List (Numbered I)
items_from items number [] = []
items_from items number (line ∷ others) = map (numbered number) (items line) ++ items_from items (number + 1) others

-- the items of a text
abbrev pub items_in : {K I X : Type 0} → Reading K I X → List ℕ → List (Numbered I)
items_in reading text = items_from reading.items 1 (lines text)

-- ---- outcomes

-- what comes behind an item: its fault, where it has one, and else what the items behind it come to
abbrev pub outcome_at : {X : Type 0} → Option ℕ → (line : ℕ) → Outcome X → Outcome X
outcome_at (Some kind) line later = Faulty line kind
outcome_at None line later = later

-- what items come to, behind those that made this known; behind the last line stands the last fault, if there is one
abbrev pub outcome_after : {K I X : Type 0} → Reading K I X → (last : ℕ) → K → List (Numbered I) → Outcome X
outcome_after reading last known [] =
    outcome_at (reading.end_fault known) (last + 1) (Means (reading.result known))
outcome_after reading last known (now ∷ others) =
    outcome_at (reading.fault known now.item) now.line
    (outcome_after reading last (reading.next known now.item) others)

-- what all lines of a text come to
abbrev pub outcome_of_lines : {K I X : Type 0} → Reading K I X → List ℕ → Outcome X
outcome_of_lines reading text = outcome_after reading (length (lines text)) reading.start (items_in reading text)

-- ---- long texts

-- a text that is longer is looked at as far as the first byte too many: the line of that byte is a fault, unless there
-- is one before, or a lesser one on that line
abbrev pub too_long : {X : Type 0} → (long last : ℕ) → Outcome X → Outcome X
too_long long last (Means value) = Faulty last long
too_long long last (Faulty line kind) =
    if nat_lt line last || (line == last && nat_lt kind long) then Faulty line kind else Faulty last long

-- what a text comes to of which this start is looked at
abbrev pub outcome_of_start : {K I X : Type 0} → Reading K I X → List ℕ → Outcome X
outcome_of_start reading start = too_long reading.long (length (lines start)) (outcome_of_lines reading start)

-- what a text comes to
unfoldable pub outcome_of : {K I X : Type 0} → Reading K I X → List ℕ → Outcome X
outcome_of reading text =
    if nat_le (length text) longest_text then outcome_of_lines reading text
    else outcome_of_start reading (take (longest_text + 1) text)

-- a text has a result
pub record HasResult {K I X : Type 0} (reading : Reading K I X) (text : List ℕ) (value : X) : Type 0 where
  pub means : outcome_of reading text ≡ Means value

-- a text has its first fault on a line, and the least kind of fault there
pub record HasFault {K I X : Type 0} (reading : Reading K I X) (text : List ℕ) (line kind : ℕ) : Type 0 where
  pub faulty : outcome_of reading text ≡ Faulty line kind
