-- What is left of lists with an entry for each column without those of the columns that are gone.
use Rattle.std.specs.Prelude.{ℕ, ◌+◌, Bool, true, false, List, [], ◌∷◌, Option, map, is_some}
use Rattle.cip_presolve.specs.Forms.{Form}

-- whether each column is gone: whether it has a form
abbrev pub gone_of : List (Option Form) → List Bool
gone_of forms = map is_some forms

-- the entries of the columns that stay
abbrev pub entries_left : {X : Type 0} → List Bool → List X → List X
entries_left [] entries = []
entries_left (is_gone ∷ gone) [] = []
entries_left (true ∷ gone) (entry ∷ entries) = entries_left gone entries
entries_left (false ∷ gone) (entry ∷ entries) = entry ∷ entries_left gone entries

-- the old numbers of the columns that stay, where the first entry is of this column
abbrev pub old_numbers : ℕ → List Bool → List ℕ
old_numbers first [] = []
old_numbers first (true ∷ gone) = old_numbers (first + 1) gone
old_numbers first (false ∷ gone) = first ∷ old_numbers (first + 1) gone

-- the new number of each column that stays, where so many stay before these
abbrev pub new_numbers : ℕ → List Bool → List ℕ
new_numbers before [] = []
new_numbers before (true ∷ gone) = before ∷ new_numbers before gone
new_numbers before (false ∷ gone) = before ∷ new_numbers (before + 1) gone
