-- Columns that presolve takes out: each has a value that follows from the values of those that stay. A list of one
-- entry for each column says so: `None` of a column that stays, and else the form of its value.
use Rattle.std.specs.Prelude.{ℕ, zero, suc, List, [], ◌∷◌, Option, None, Some, map}
use Rattle.cip_rational.specs.Rational.{ℚ, ◌+ℚ◌, ◌*ℚ◌, zeroℚ}
use Rattle.cip_problem.specs.Program.{Term, Row}
use Rattle.cip_problem.specs.Activity.{value_at}

-- a value as an affine form of that of one column
pub record Form : Type 0 where
  pub constant : ℚ
  pub factor : ℚ
  pub source : ℕ

-- the form of a value that doesn't change
abbrev pub constant_form : ℚ → Form
constant_form value = record { constant = value; factor = zeroℚ; source = 0 }

-- the value of a form at a point
abbrev pub form_value : Form → List ℚ → ℚ
form_value form point = form.constant +ℚ form.factor *ℚ value_at point form.source

-- ---- from the columns that stay to all columns

-- the values of the columns that stay, at their old places, and 0 at those that are gone
abbrev pub placed : List (Option Form) → List ℚ → List ℚ
placed [] values = []
placed (None ∷ forms) [] = zeroℚ ∷ placed forms []
placed (None ∷ forms) (value ∷ values) = value ∷ placed forms values
placed (Some form ∷ forms) values = zeroℚ ∷ placed forms values

-- the values of a point, and of the forms at this point where a column is gone
abbrev pub filled : List (Option Form) → (at values : List ℚ) → List ℚ
filled [] at values = []
filled (form ∷ forms) at [] = []
filled (None ∷ forms) at (value ∷ values) = value ∷ filled forms at values
filled (Some form ∷ forms) at (value ∷ values) = form_value form at ∷ filled forms at values

-- the point of all columns that a point of those that stay comes back as
abbrev pub spread : List (Option Form) → List ℚ → List ℚ
spread forms values = filled forms (placed forms values) (placed forms values)

-- ---- from all columns to those that stay

-- the entries of the columns that stay
abbrev pub gathered : {X : Type 0} → List (Option Form) → List X → List X
gathered [] entries = []
gathered (form ∷ forms) [] = []
gathered (None ∷ forms) (entry ∷ entries) = entry ∷ gathered forms entries
gathered (Some form ∷ forms) (entry ∷ entries) = gathered forms entries

-- the old number of the column that has this number among those that stay
abbrev pub kept_at : List (Option Form) → ℕ → ℕ
kept_at [] number = 0
kept_at (None ∷ forms) zero = 0
kept_at (None ∷ forms) (suc number) = suc (kept_at forms number)
kept_at (Some form ∷ forms) number = suc (kept_at forms number)

-- the number among those that stay of the column that has this old number
abbrev pub number_in : List (Option Form) → ℕ → ℕ
number_in [] column = 0
number_in (form ∷ forms) zero = 0
number_in (None ∷ forms) (suc column) = suc (number_in forms column)
number_in (Some form ∷ forms) (suc column) = number_in forms column

-- the old numbers of the columns that stay, where the first entry is of this column
abbrev pub kept_from : ℕ → List (Option Form) → List ℕ
kept_from first [] = []
kept_from first (None ∷ forms) = first ∷ kept_from (suc first) forms
kept_from first (Some form ∷ forms) = kept_from (suc first) forms

-- a row over the new numbers
abbrev pub renumbered_term : List (Option Form) → Term → Term
renumbered_term forms t = record t { column = number_in forms t.column }

abbrev pub renumbered : List (Option Form) → Row → Row
renumbered forms row = record row { terms = map (renumbered_term forms) row.terms }
