-- What a search did, as the definitions have it.
use Rattle.std.specs.Prelude.{ℕ, List, [], ◌∷◌, map, slice_index_or, Option, None, Some}
use Rattle.cip_problem.specs.Log.{Entry}
use Rattle.cip_tree.specs.Entries as tree
use Rattle.cip_solve.specs.Mark.{Mark}
use Rattle.cip_solve.specs.declared.logs.Log.{Log}

-- the entries
abbrev pub entries_of : Log → List Entry
entries_of log = tree.entries_of log.taken.items

-- the numbers of marked nodes
abbrev pub numbers_of : List (ℕ × Mark) → List ℕ
numbers_of marks = map (λ mark. mark.0) marks

abbrev pub marked_in : Log → List ℕ
marked_in log = numbers_of log.marks.items

-- the mark of a node of this number, if it has one
abbrev pub marks_by : ℕ → Option Mark → List (ℕ × Mark)
marks_by number None = []
marks_by number (Some mark) = (number, mark) ∷ []

-- the number that a list has for another; one that isn't below the list's length stays
abbrev pub renamed : List ℕ → ℕ → ℕ
renamed numbers column = slice_index_or numbers column column
