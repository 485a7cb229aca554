-- Rows whose numbers stand in groups of 64 rows.
--     numbers_at groups number      the numbers of a row
--     rows_of heads groups      all rows
use Rattle.std.specs.Prelude.{◌≡◌, ℕ, suc, ◌≤◌, ◌*◌, ◌/◌, ◌%◌, true, false, List, [], ◌∷◌, length, slice_index_or}
use Rattle.cip_text_rules.specs.MpsState.{Held, RowRead, right_side_of}
use Rattle.cip_text_rules.specs.MpsSteps.{moved_overflows}
use Rattle.cip_text_rules.specs.MpsSoundState.{held_below}
use Rattle.cip_mps.specs.Entries.{Entry, numbers_of}

-- what a function says of each item and its place
abbrev pub map_at : {X Y : Type 0} → (ℕ → X → Y) → List X → List Y
map_at f [] = []
map_at f (x ∷ xs) = f 0 x ∷ map_at (λ place. f (suc place)) xs

-- the numbers of the row of a number
abbrev pub numbers_at : List (List Entry) → ℕ → List Held
numbers_at groups number = numbers_of (number % 64) (slice_index_or groups (number / 64) [])

-- a row with other numbers
abbrev pub with_numbers : List Held → RowRead → RowRead
with_numbers held row = record { kind = row.kind; held = held; right_side = row.right_side; range = row.range }

-- the rows, of which the heads say all but the numbers
abbrev pub rows_of : (heads : List RowRead) → List (List Entry) → List RowRead
rows_of heads groups = map_at (λ number. with_numbers (numbers_at groups number)) heads

-- the side that a value of RANGES moves can be formed
pub record HasSides (row : RowRead) : Type 0 where
  pub fits : moved_overflows row.kind (right_side_of row) row.range ≡ false

-- each row has a group, and a number above the columns of all its numbers
pub record IsSoundTable (held_to : List ℕ) (heads : List RowRead) (groups : List (List Entry)) : Type 0 where
  pub as_many : length held_to ≡ length heads
  pub enough : length heads ≤ 64 * length groups
  pub below : (number : ℕ) → held_below (slice_index_or held_to number 0) (numbers_at groups number) ≡ true
