-- The lines of a text and their fields, as free MPS has them. A text is a list of bytes.
use Rattle.std.specs.Prelude.{◌≡◌, ℕ, Bool, true, false, ◌==◌, ◌||◌, List, [], ◌∷◌, Option, None, Some, if◌then◌else◌}
use Rattle.std.specs.List.{AllByRecursion, slice_split, filter, filter_map}

-- the line feed
abbrev pub is_line_feed : ℕ → Bool
is_line_feed byte = byte == 10

-- blank, tab and carriage return
abbrev pub is_blank : ℕ → Bool
is_blank byte = byte == 32 || (byte == 9 || byte == 13)

-- a line feed is not among the bytes
abbrev pub HasNoLineFeed : List ℕ → Type 0
HasNoLineFeed line = AllByRecursion (λ byte. is_line_feed byte ≡ false) line

-- a blank is not among the bytes
abbrev pub HasNoBlank : List ℕ → Type 0
HasNoBlank word = AllByRecursion (λ byte. is_blank byte ≡ false) word

abbrev pub is_filled : List ℕ → Bool
is_filled [] = false
is_filled (byte ∷ bytes) = true

-- the pieces between line feeds, without the last one where it is empty
abbrev pub without_empty_end : List (List ℕ) → List (List ℕ)
without_empty_end [] = []
without_empty_end (piece ∷ []) = if is_filled piece then piece ∷ [] else []
without_empty_end (piece ∷ other ∷ pieces) = piece ∷ without_empty_end (other ∷ pieces)

-- the lines of a text: it is cut at line feeds, and what follows the last one is a line only where it isn't empty
abbrev pub lines : List ℕ → List (List ℕ)
lines text = without_empty_end (slice_split is_line_feed text)

-- the fields of a line: what stands between blanks
abbrev pub fields : List ℕ → List (List ℕ)
fields line = filter is_filled (slice_split is_blank line)

-- what a line says: the fields of a section line, or those of any other line
pub data Record : Type 0 where
  Section : (words : List (List ℕ)) → Record
  Entry : (words : List (List ℕ)) → Record

-- a line of blanks alone says nothing
abbrev pub entry_of : List (List ℕ) → Option Record
entry_of [] = None
entry_of (word ∷ words) = Some (Entry (word ∷ words))

-- what a line says: nothing where it is empty, a comment or of blanks alone; a line whose first byte isn't a blank
-- is a section line
abbrev pub record_of : (comment : ℕ) → List ℕ → Option Record
record_of comment [] = None
record_of comment (byte ∷ bytes) =
    if byte == comment then None
    else (if is_blank byte then entry_of (fields (byte ∷ bytes)) else Some (Section (fields (byte ∷ bytes))))

-- the records of a text of free MPS, in which `*` begins a comment
abbrev pub records : List ℕ → List Record
records text = filter_map (record_of 42) (lines text)
