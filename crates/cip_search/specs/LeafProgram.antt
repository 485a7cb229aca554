-- The linear program of a leaf: the continuous columns with their bounds and costs, numbered anew from 0, and each
-- row with each side less the row's fixed part, which is the sum of its products over the whole columns at the leaf's
-- values.
use Rattle.std.specs.Prelude.{ℕ, zero, suc, Bool, true, false, List, [], ◌∷◌, map, Option, None, Some, if◌then◌else◌}
use Rattle.cip_rational.specs.Rational.{ℚ, ◌-ℚ◌, zeroℚ}
use Rattle.cip_problem.specs.Program.{Term, Row, Program}
use Rattle.cip_problem.specs.Activity.{activity}
use Rattle.cip_problem.specs.LinearProgram.{LinearProgram}

-- of a list with an entry for each column, the entries of the continuous columns
abbrev pub at_continuous : {X : Type 0} → List Bool → List X → List X
at_continuous [] entries = []
at_continuous (whole ∷ wholes) [] = []
at_continuous (true ∷ wholes) (entry ∷ entries) = at_continuous wholes entries
at_continuous (false ∷ wholes) (entry ∷ entries) = entry ∷ at_continuous wholes entries

-- the point with the values of a leaf on whole columns and others on continuous ones; 0 where a list has no more
abbrev pub merged : List Bool → List ℚ → List ℚ → List ℚ
merged [] leaf others = []
merged (true ∷ wholes) [] others = zeroℚ ∷ merged wholes [] others
merged (true ∷ wholes) (value ∷ values) others = value ∷ merged wholes values others
merged (false ∷ wholes) leaf [] = zeroℚ ∷ merged wholes leaf []
merged (false ∷ wholes) leaf (other ∷ others) = other ∷ merged wholes leaf others

-- a column is continuous
abbrev pub is_continuous : List Bool → ℕ → Bool
is_continuous [] column = false
is_continuous (true ∷ wholes) zero = false
is_continuous (false ∷ wholes) zero = true
is_continuous (whole ∷ wholes) (suc column) = is_continuous wholes column

-- the new number of a continuous column: how many such columns stand before it
abbrev pub new_number : List Bool → ℕ → ℕ
new_number [] column = 0
new_number (whole ∷ wholes) zero = 0
new_number (true ∷ wholes) (suc column) = new_number wholes column
new_number (false ∷ wholes) (suc column) = suc (new_number wholes column)

-- the terms on continuous columns, by their new numbers
abbrev pub continuous_terms : List Bool → List Term → List Term
continuous_terms integral [] = []
continuous_terms integral (t ∷ ts) =
    if is_continuous integral t.column
    then record { column = new_number integral t.column; coefficient = t.coefficient } ∷ continuous_terms integral ts
    else continuous_terms integral ts

-- the fixed part of a row: its activity where the continuous columns are 0
abbrev pub part_of : Program → List ℚ → Row → ℚ
part_of program leaf row = activity row.terms (merged program.integral leaf [])

-- a side less a fixed part
abbrev pub shifted : Option ℚ → ℚ → Option ℚ
shifted None part = None
shifted (Some side) part = Some (side -ℚ part)

-- what is left of a row
abbrev pub row_of_leaf : Program → List ℚ → Row → Row
row_of_leaf program leaf row = record {
  terms = continuous_terms program.integral row.terms;
  low = shifted row.low (part_of program leaf row);
  high = shifted row.high (part_of program leaf row);
}

-- the program of a leaf
abbrev pub program_of_leaf : Program → List ℚ → LinearProgram
program_of_leaf program leaf = record {
  rows = map (row_of_leaf program leaf) program.rows;
  bounds = at_continuous program.integral program.bounds;
  costs = at_continuous program.integral program.costs;
}
