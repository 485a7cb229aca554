-- What the lists of a dictionary say, where there is no dictionary yet.
use Rattle.std.specs.Prelude.{ℕ, Bool, not, is_some, List, [], Option, None, slice_index_or}
use Rattle.cip_rational.specs.Rational.{ℚ}
use Rattle.cip_problem.specs.Activity.{value_at}
use Rattle.cip_bland.specs.declared.moves.Stand.{Stand}

-- whether a variable is basic, by where all stand
abbrev pub basic_in : List (Option Stand) → ℕ → Bool
basic_in standing v = not (is_some (slice_index_or standing v None))

-- the entry of a variable's row on a variable
abbrev pub entry_in : List (List ℚ) → ℕ → ℕ → ℚ
entry_in rows v k = value_at (slice_index_or rows v []) k
