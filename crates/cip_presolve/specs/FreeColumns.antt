-- Columns that no row keeps from falling, or from rising, but for rows that give a column that follows its form.
use Rattle.std.specs.Prelude.{◌≡◌, ◌⊎◌, ℕ, Bool, true, false, List, Option, Some, length, slice_get}
use Rattle.std.specs.List.{AllByRecursion}
use Rattle.cip_rational.specs.Rational.{ℚ, negate}
use Rattle.cip_problem.specs.Program.{Term, Row}
use Rattle.cip_search.specs.Forms.{Form}
use Rattle.cip_search.specs.Moving.{LetsFall}
use Rattle.cip_presolve.specs.SpentRows.{IsSpent}

-- a number, with the other sign where a column is to rise: a value rises as its negative falls
abbrev pub turned : Bool → ℚ → ℚ
turned true c = negate c
turned false c = c

-- a term of a row with these sides lets its column fall, or rise, where that is free; so do all terms
abbrev pub TermFree : Bool → List Bool → Option ℚ → Option ℚ → Term → Type 0
TermFree rising free low high term =
    slice_get free term.column ≡ Some true → LetsFall low high (turned rising term.coefficient)

abbrev pub TermsFree : Bool → List Bool → Option ℚ → Option ℚ → List Term → Type 0
TermsFree rising free low high terms = AllByRecursion (TermFree rising free low high) terms

-- so do those of a row, unless it gives a column its form; so do all rows
abbrev pub RowFree : Bool → List Bool → List (Option Form) → Row → Type 0
RowFree rising free forms row = IsSpent forms row ⊎ TermsFree rising free row.low row.high row.terms

abbrev pub RowsFree : Bool → List Bool → List (Option Form) → List Row → Type 0
RowsFree rising free forms rows = AllByRecursion (RowFree rising free forms) rows

-- no column is free that wasn't
pub record FreeFewer (old new : List Bool) : Type 0 where
  pub long : length new ≡ length old
  pub free : (column : ℕ) → slice_get new column ≡ Some true → slice_get old column ≡ Some true
