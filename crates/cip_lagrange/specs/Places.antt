-- The places of columns among those of their owners.
use Rattle.std.specs.Prelude.{◌≡◌, ℕ, ◌+◌, List, length, map, None, Some, slice_get, slice_index, slice_set}
use Rattle.cip_problem.specs.Program.{Term, Row}
use Rattle.cip_pricing.specs.Decomposition.{Owner, place}

-- each column has its place
pub record ArePlaces (owners : List Owner) (places : List ℕ) : Type 0 where
  pub long : length places ≡ length owners
  pub at : (column : ℕ) (who : Owner) → slice_get owners column ≡ Some who
      → slice_index places column ≡ place who owners column

-- a row whose terms name columns by these places
abbrev pub placed_row : List ℕ → Row → Row
placed_row places row =
    record row { terms = map (λ (t : Term). record t { column = slice_index places t.column }) row.terms }

-- ---- counts, as places are given out

-- where the count of an owner stands: first that of the columns of no block, and then those of the blocks
abbrev pub slot : Owner → ℕ
slot None = 0
slot (Some block) = block + 1

-- the counts, where one of them is one more
abbrev pub next_counts : ℕ → List ℕ → List ℕ
next_counts at counts = slice_set counts at (slice_index counts at + 1)
