-- The columns whose choice is still open.
use Rattle.std.specs.Prelude.{◌⊎◌, ℕ, Bool, not, List, length}
use Rattle.cip_rational.specs.Rational.{ℚ}
use Rattle.cip_problem.specs.Program.{Sides, Choice}
use Rattle.cip_problem.specs.Activity.{value_at}
use Rattle.cip_problem.specs.Choices.{choice_at, is_open}
use Rattle.cip_lin.specs.ChoiceParts.{is_allowed}
use Rattle.cip_node_rules.specs.OpenColumns.{is_open_at, IsFirstColumn, PassesNowhere}

-- the choice of a column is open
abbrev pub is_choice_open : List Choice → ℕ → Bool
is_choice_open choices column = is_open (choice_at choices column)

-- a point has a value at a column that its choice, which is open, doesn't allow
abbrev pub is_unallowed : List Choice → List ℚ → ℕ → Bool
is_unallowed choices point column = not (is_allowed (choice_at choices column) (value_at point column))

-- no whole column has two whole values, and no choice is open
pub record IsSettledBox (integral : List Bool) (box : List Sides) (choices : List Choice) : Type 0 where
  pub no_two : PassesNowhere (is_open_at integral box) (length integral)
  pub made : PassesNowhere (is_choice_open choices) (length integral)

-- a whole column has two whole values, or the choice of a column is open
abbrev pub IsOpenBox : List Bool → List Sides → List Choice → Type 0
IsOpenBox integral box choices =
    ((column : ℕ) × IsFirstColumn (is_open_at integral box) (length integral) column)
    ⊎ ((column : ℕ) × IsFirstColumn (is_choice_open choices) (length integral) column)
