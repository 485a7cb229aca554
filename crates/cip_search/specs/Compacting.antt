-- The end of presolve: columns whose values follow from others, and rows that then hold, are taken out, and what stays
-- is numbered anew.
use Rattle.std.specs.Prelude.{◌≡◌, ◌⊎◌, ℕ, Bool, true, false, List, [], ◌∷◌, length, Option, None, Some, slice_get, ⊤}
use Rattle.std.specs.List.{AllByRecursion}
use Rattle.cip_rational.specs.Rational.{ℚ, zeroℚ, IsWhole}
use Rattle.cip_problem.specs.Program.{Term, Row, Program}
use Rattle.cip_problem.specs.Activity.{value_at}
use Rattle.cip_problem.specs.Box.{Between, IsInBox, sides_at}
use Rattle.cip_problem.specs.Choices.{choice_at, is_open}
use Rattle.cip_problem.specs.Wholes.{HasWhole}
use Rattle.cip_problem.specs.Points.{IsSatisfied}
use Rattle.cip_problem.specs.Reduced.{IsRelaxed}
use Rattle.cip_search.specs.NarrowedPrograms.{AllSatisfied}
use Rattle.cip_search.specs.Forms.{Form, form_value, placed, spread, gathered, renumbered}
use Rattle.cip_search.specs.Pairs.{HasSource, IsWholeIn, IsAssignment}

-- a column stays
abbrev pub Stays : List (Option Form) → ℕ → Type 0
Stays forms column = slice_get forms column ≡ Some None

-- a whole column that is gone has a whole form of a whole column; where that has a value in range and within bounds, so
-- has the form; and some whole number lies within the column's bounds
pub record HasWholeForm
    (program reduced : Program) (forms : List (Option Form)) (column : ℕ) (form : Form) : Type 0 where
  pub constant : IsWhole form.constant
  pub factor : IsWhole form.factor
  pub source : HasSource program.integral form
  pub assigned : (point : List ℚ)
      → IsAssignment reduced point → IsWholeIn (sides_at program.bounds column) (form_value form (placed forms point))
  pub some_whole : HasWhole (sides_at program.bounds column)

-- a column may go: it isn't semi-continuous and costs nothing; its form has a source that stays, keeps its bounds, and
-- is its value wherever bounds and rows are kept
pub record IsGone (program reduced : Program) (forms : List (Option Form)) (column : ℕ) (form : Form) : Type 0 where
  pub plain : is_open (choice_at program.choices column) ≡ false
  pub free : value_at program.costs column ≡ zeroℚ
  pub source : (form.factor ≡ zeroℚ) ⊎ Stays forms form.source
  pub within : (point : List ℚ) → IsInBox reduced.bounds point
      → Between (sides_at program.bounds column).low (sides_at program.bounds column).high
      (form_value form (placed forms point))
  pub forced : (point : List ℚ) → IsRelaxed program point → value_at point column ≡ form_value form point
  pub whole : slice_get program.integral column ≡ Some true → HasWholeForm program reduced forms column form

-- a program is compacted: the columns that have a form are gone, those that stay are numbered anew, and rows hold at a
-- point of the reduced program exactly where they hold at the point that it comes back as
pub record IsCompacted (program compacted : Program) (forms : List (Option Form)) : Type 0 where
  pub long : length forms ≡ length program.bounds
  pub integral : compacted.integral ≡ gathered forms program.integral
  pub costs : compacted.costs ≡ gathered forms program.costs
  pub constant : compacted.constant ≡ program.constant
  pub bounds : compacted.bounds ≡ gathered forms program.bounds
  pub choices : compacted.choices ≡ gathered forms program.choices
  pub gone : (column : ℕ) (form : Form) → slice_get forms column ≡ Some (Some form)
      → IsGone program compacted forms column form
  pub back : (point : List ℚ) → IsRelaxed compacted point → AllSatisfied program.rows (spread forms point)
  pub onward : (point : List ℚ) → IsRelaxed program point → AllSatisfied compacted.rows (gathered forms point)

-- ---- rows

-- the rows that stay, numbered anew
abbrev pub rows_left : List (Option Form) → List Bool → List Row → List Row
rows_left forms [] rows = []
rows_left forms (stays ∷ others) [] = []
rows_left forms (true ∷ others) (row ∷ rows) = renumbered forms row ∷ rows_left forms others rows
rows_left forms (false ∷ others) (row ∷ rows) = rows_left forms others rows

-- each term of a row stands on a column that stays
abbrev pub StandsOnLeft : List (Option Form) → List Term → Type 0
StandsOnLeft forms terms = AllByRecursion (λ t. Stays forms t.column) terms

-- a row that is gone holds at each point that comes back
abbrev pub HoldsBack : Program → List (Option Form) → Row → Type 0
HoldsBack compacted forms row = (point : List ℚ) → IsRelaxed compacted point → IsSatisfied row (spread forms point)

-- each row stays and stands on columns that stay, or holds at each point that comes back
abbrev pub AreLeft : Program → List (Option Form) → List Bool → List Row → Type 0
AreLeft compacted forms [] [] = ⊤
AreLeft compacted forms [] (row ∷ rows) = ⊥
AreLeft compacted forms (stays ∷ others) [] = ⊥
AreLeft compacted forms (true ∷ others) (row ∷ rows) =
    StandsOnLeft forms row.terms × AreLeft compacted forms others rows
AreLeft compacted forms (false ∷ others) (row ∷ rows) =
    HoldsBack compacted forms row × AreLeft compacted forms others rows
