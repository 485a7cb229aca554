-- What ties the lists of a program together.
use Rattle.std.specs.Prelude.{◌≡◌, ℕ, ◌≤◌, Bool, false, [], length, All, Option, Some, IsSome, IsSomeAnd, slice_get, ⊤}
use Rattle.cip_rational.specs.Rational.{◌≤ℚ◌, zeroℚ}
use Rattle.cip_problem.specs.Limits.{most_rows, most_columns}
use Rattle.cip_problem.specs.Program.{Sides, Choice, Plain, Open, Off, On, Program}
use Rattle.cip_problem.specs.Activity.{StandsBelow}
use Rattle.cip_problem.specs.Box.{sides_at}
use Rattle.cip_problem.specs.Choices.{choice_at, open_sides}

-- how many columns a program has
abbrev pub columns : Program → ℕ
columns program = length program.costs

-- a semi-continuous column isn't whole; it has both own sides, the low one at least 0, and the bounds of an open choice
pub record IsSemi (own : Sides) (whole : Option Bool) (bounds : Sides) : Type 0 where
  pub continuous : whole ≡ Some false
  pub low : IsSomeAnd own.low (λ side. zeroℚ ≤ℚ side)
  pub high : IsSome own.high
  pub open_ : bounds ≡ open_sides own

-- a column's choice is its program's: it is plain or open, with whether the column is whole, and its bounds
abbrev pub IsChoice : Choice → Option Bool → Sides → Type 0
IsChoice Plain whole bounds = ⊤
IsChoice (Open own) whole bounds = IsSemi own whole bounds
IsChoice Off whole bounds = ⊥
IsChoice On whole bounds = ⊥

-- the lists have an entry for each column and each row, of which there are no more than the limits, and
-- each row stands on columns of the program; no choice is made
pub record IsWellFormed (program : Program) : Type 0 where
  pub column_names : length program.column_names ≡ columns program
  pub integral : length program.integral ≡ columns program
  pub bounds : length program.bounds ≡ columns program
  pub row_names : length program.row_names ≡ length program.rows
  pub few_columns : columns program ≤ most_columns
  pub few_rows : length program.rows ≤ most_rows
  pub rows : All (λ row. StandsBelow (columns program) row.terms) program.rows
  pub choices : (column : ℕ)
      → IsChoice (choice_at program.choices column) (slice_get program.integral column) (sides_at program.bounds column)

-- a program without rows and columns
abbrev pub no_program : Bool → Program
no_program maximized = record {
  column_names = [];
  row_names = [];
  rows = [];
  costs = [];
  constant = zeroℚ;
  maximized = maximized;
  integral = [];
  bounds = [];
  choices = [];
}
