-- The entries of a linear program: of each row, by rising number, its terms.
use Rattle.std.specs.Prelude.{ℕ, List, map, length}
use Rattle.cip_problem.specs.Program.{Term, Row}
use Rattle.cip_bland.specs.Tables.{each}
use Rattle.cip_bland.specs.ProgramState.{terms_at}
use Rattle.cip_dict.specs.Entries.{Entry}

-- a term of row r
abbrev pub entry_of : ℕ → Term → Entry
entry_of r t = (r, t.column, t.coefficient)

-- those of row r
abbrev pub row_entries : List Row → ℕ → List Entry
row_entries rows r = map (entry_of r) (terms_at rows r)

-- those of all rows
abbrev pub entries_in : List Row → List Entry
entries_in rows = each (length rows) (row_entries rows)
