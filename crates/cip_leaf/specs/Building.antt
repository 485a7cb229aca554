-- What the building of a leaf's program makes, list by list.
use Rattle.std.specs.Prelude.{◌≡◌, ◌||◌, ℕ, ◌+◌, Bool, true, false, List, [], ◌∷◌, Option, None, Some, Result, Ok, Err, slice_get, if◌then◌else◌, ⊤}
use Rattle.cip_rational.specs.Rational.{ℚ, zeroℚ}
use Rattle.cip_problem.specs.Program.{Sides, Row}
use Rattle.cip_problem.specs.Choices.{zero_sides}
use Rattle.cip_problem.specs.Activity.{activity}
use Rattle.cip_frac.specs.declared.operations.Wide.{Wide as Overflow}
use Rattle.cip_lin.specs.RowSums.{activity_from}
use Rattle.cip_search.specs.Wide.{shift_overflows}
use Rattle.cip_search.specs.LeafProgram.{continuous_terms, shifted}
use Rattle.cip_leaf.specs.declared.rows.RowFault.{RowFault}
use Rattle.cip_leaf.specs.declared.rows.RowFault.TheVariants as row_fault
use Rattle.cip_leaf.specs.declared.rows.RowsFault.{RowsFault}
use Rattle.cip_leaf.specs.declared.rows.RowsFault.TheVariants.{Wide, NoMemory}

-- for each column how many continuous ones stand before it, where there are so many before the first
abbrev pub numbers_from : ℕ → List Bool → List ℕ
numbers_from n [] = []
numbers_from n (true ∷ wholes) = n ∷ numbers_from n wholes
numbers_from n (false ∷ wholes) = n ∷ numbers_from (n + 1) wholes

-- the sides of a column with these own sides, if its choice is open, where that is made, if it is
abbrev pub sides_made : Option Sides → Option Bool → Sides → Sides
sides_made None on sides = sides
sides_made (Some own) None sides = sides
sides_made (Some own) (Some is_on) sides = if is_on then own else zero_sides

-- how many choices of the leaf a column takes
abbrev pub made_more : Option Sides → Option Bool → ℕ
made_more None on = 0
made_more (Some own) None = 0
made_more (Some own) (Some is_on) = 1

-- what is left of a row, where a point has the values of the leaf, and 0 on continuous columns
abbrev pub left_of : List Bool → List ℚ → Row → Row
left_of integral point row = record {
  terms = continuous_terms integral row.terms;
  low = shifted row.low (activity row.terms point);
  high = shifted row.high (activity row.terms point);
}

-- a row with this fixed part has none left in the range
abbrev pub is_too_wide : Row → Result ℚ Overflow → Bool
is_too_wide row (Err overflow) = true
is_too_wide row (Ok part) = shift_overflows row.low part || shift_overflows row.high part

-- why nothing was made of a row with this fixed part
abbrev pub IsRowFault : Row → Result ℚ Overflow → RowFault → Type 0
IsRowFault row part row_fault.Wide = is_too_wide row part ≡ true
IsRowFault row part row_fault.NoMemory = ⊤

-- so it is with the row of this number
pub record IsTooWideAt (rows : List Row) (point : List ℚ) (number : ℕ) : Type 0 where
  pub row : Row
  pub is_row : slice_get rows number ≡ Some row
  pub wide : is_too_wide row (activity_from zeroℚ row.terms point) ≡ true

-- why rows were not made
abbrev pub IsRowsFault : List Row → List ℚ → RowsFault → Type 0
IsRowsFault rows point (Wide number) = IsTooWideAt rows point number
IsRowsFault rows point NoMemory = ⊤
