-- Parts of a linear program: one multiplier for each column and each row gives a list of parts.
use Rattle.std.specs.Prelude.{◌≡◌, ℕ, suc, ◌<◌, ◌||◌, List, [], ◌∷◌, ◌++◌, length, map, Some, if◌then◌else◌, slice_get, ⊤}
use Rattle.std.specs.List.{AllByRecursion}
use Rattle.cip_rational.specs.Rational.{ℚ, ◌+ℚ◌, zeroℚ, oneℚ, ◌<ℚ◌, lt_test}
use Rattle.cip_rational.specs.Sums.{dot}
use Rattle.cip_problem.specs.Program.{Sides, Row}
use Rattle.cip_problem.specs.Activity.{activity}
use Rattle.cip_problem.specs.Box.{sides_at}
use Rattle.cip_problem.specs.LinearProgram.{LinearProgram}
use Rattle.cip_problem.specs.Aggregate.{Part, IsPartOf, bound_row}

-- ---- parts of a program

-- a part is a multiple of a row of the program, or of the bounds of one of its columns
pub data IsPartOfProgram (program : LinearProgram) (part : Part) : Type 0 where
  Of_row : (number : ℕ) (row : Row) → slice_get program.rows number ≡ Some row → IsPartOf row part
      → IsPartOfProgram program part
  Of_column : (column : ℕ) → column < length program.bounds
      → IsPartOf (bound_row column (sides_at program.bounds column)) part → IsPartOfProgram program part

-- each part is one of the program
abbrev pub ArePartsOf : LinearProgram → List Part → Type 0
ArePartsOf program parts = AllByRecursion (IsPartOfProgram program) parts

-- ---- a number for each column and each row

-- a number for each column, and one for each row
pub record OnVariables : Type 0 where
  pub columns : List ℚ
  pub rows : List ℚ

-- the sum of the products
abbrev pub paired : OnVariables → OnVariables → ℚ
paired y u = dot y.columns u.columns +ℚ dot y.rows u.rows

-- the activities of rows at a point
abbrev pub activities : List Row → List ℚ → List ℚ
activities rows point = map (λ row. activity row.terms point) rows

-- a point, with the activity of each row
abbrev pub extended : LinearProgram → List ℚ → OnVariables
extended program point = record { columns = point; rows = activities program.rows point }

-- the number at a multiplier is the side that the multiplier uses: the low one where it is above 0, the high one
-- where it is below 0
pub record IsUsed (multiplier : ℚ) (sides : Sides) (side : ℚ) : Type 0 where
  pub low : zeroℚ <ℚ multiplier → sides.low ≡ Some side
  pub high : multiplier <ℚ zeroℚ → sides.high ≡ Some side

-- so it is at each of the multipliers, of which there is one for each list of sides
abbrev pub AllUsed : List ℚ → List Sides → List ℚ → Type 0
AllUsed [] [] [] = ⊤
AllUsed (y ∷ ys) (s ∷ ss) (u ∷ us) = IsUsed y s u × AllUsed ys ss us
AllUsed _ _ _ = ⊥

-- the sides of a row
abbrev pub row_sides : Row → Sides
row_sides row = record { low = row.low; high = row.high }

-- so it is at each column and each row of the program
pub record UsesSides (program : LinearProgram) (multipliers used : OnVariables) : Type 0 where
  pub columns : AllUsed multipliers.columns program.bounds used.columns
  pub rows : AllUsed multipliers.rows (map row_sides program.rows) used.rows

-- as linear forms, and so at each point, the multipliers of columns and rows sum to the costs
abbrev pub SumsTo : LinearProgram → OnVariables → List ℚ → Type 0
SumsTo program multipliers costs =
    (point : List ℚ) → length point ≡ length program.bounds
    → paired multipliers (extended program point) ≡ dot costs point

-- ---- the parts that multipliers give

-- each row whose multiplier isn't 0, times that, with the number there as its side
abbrev pub row_parts : List Row → List ℚ → List ℚ → List Part
row_parts [] ys us = []
row_parts (r ∷ rs) [] us = []
row_parts (r ∷ rs) (y ∷ ys) [] = []
row_parts (r ∷ rs) (y ∷ ys) (u ∷ us) =
    if lt_test zeroℚ y || lt_test y zeroℚ then record { factor = y; terms = r.terms; side = u } ∷ row_parts rs ys us
    else row_parts rs ys us

-- a column times a factor, with a side
abbrev pub column_part : ℕ → ℚ → ℚ → Part
column_part column factor side = record {
  factor = factor;
  terms = record { column = column; coefficient = oneℚ } ∷ [];
  side = side;
}

-- each column whose multiplier is above 0, the first of them with this number
abbrev pub low_parts : ℕ → List ℚ → List ℚ → List Part
low_parts column [] us = []
low_parts column (y ∷ ys) [] = []
low_parts column (y ∷ ys) (u ∷ us) =
    if lt_test zeroℚ y then column_part column y u ∷ low_parts (suc column) ys us else low_parts (suc column) ys us

-- each column whose multiplier is below 0, the first of them with this number
abbrev pub high_parts : ℕ → List ℚ → List ℚ → List Part
high_parts column [] us = []
high_parts column (y ∷ ys) [] = []
high_parts column (y ∷ ys) (u ∷ us) =
    if lt_test y zeroℚ then column_part column y u ∷ high_parts (suc column) ys us else high_parts (suc column) ys us

-- the rows, then the low sides of columns, then the high sides
abbrev pub combination : LinearProgram → OnVariables → OnVariables → List Part
combination program y u =
    row_parts program.rows y.rows u.rows ++ (low_parts 0 y.columns u.columns ++ high_parts 0 y.columns u.columns)
