-- A walk along the numbers of the objective, column by column.
use Rattle.std.specs.Prelude.{ℕ, ◌==◌, if◌then◌else◌, List, [], ◌∷◌}
use Rattle.cip_text_rules.specs.MpsState.{Held}

-- the numbers behind the one of a column, which is the first if there is one
abbrev pub held_behind : List Held → ℕ → List Held
held_behind [] column = []
held_behind (h ∷ others) column = if h.column == column then others else h ∷ others
