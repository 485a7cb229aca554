-- A program in work, without the names, which no step looks at.
use Rattle.std.specs.Prelude.{◌≡◌, ℕ, zero, suc, ◌≤◌, false, List, [], ◌∷◌, length, All, slice_get}
use Rattle.cip_problem.specs.Program.{Program}
use Rattle.cip_problem.specs.Activity.{StandsBelow}
use Rattle.cip_problem.specs.Box.{sides_at}
use Rattle.cip_problem.specs.Choices.{choice_at}
use Rattle.cip_problem.specs.Limits.{most_columns}
use Rattle.cip_problem.specs.WellFormed.{IsChoice}

-- a program without its names and its sense
abbrev pub unnamed : Program → Program
unnamed program = record program { column_names = []; row_names = []; maximized = false }

-- the lists of a draft have an entry for each column, its rows stand on its columns, and its choices are those of the
-- columns
pub record IsDraft (program : Program) : Type 0 where
  pub integral : length program.integral ≡ length program.bounds
  pub costs : length program.costs ≡ length program.bounds
  pub few : length program.bounds ≤ most_columns
  pub rows : All (λ row. StandsBelow (length program.bounds) row.terms) program.rows
  pub choices : (column : ℕ)
      → IsChoice (choice_at program.choices column) (slice_get program.integral column) (sides_at program.bounds column)

-- the numbers of so many columns, from this one on
abbrev pub counted : ℕ → ℕ → List ℕ
counted first zero = []
counted first (suc n) = first ∷ counted (suc first) n
