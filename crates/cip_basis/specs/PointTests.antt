-- The tests of a point of a linear program.
use Rattle.std.specs.Prelude.{Bool, true, false, ◌&&◌, List, [], ◌∷◌, Result, Ok, Err}
use Rattle.cip_rational.specs.Rational.{ℚ, zeroℚ}
use Rattle.cip_problem.specs.Program.{Sides, Row}
use Rattle.cip_problem.specs.Box.{is_between}
use Rattle.cip_frac.specs.declared.operations.Wide.{Wide}
use Rattle.cip_lin.specs.RowSums.{activity_from}

-- each value lies between the sides of its column
abbrev pub keeps_box : List Sides → List ℚ → Bool
keeps_box [] [] = true
keeps_box [] (value ∷ values) = false
keeps_box (sides ∷ others) [] = false
keeps_box (sides ∷ others) (value ∷ values) = is_between sides.low sides.high value && keeps_box others values

-- a sum is in range, and lies between the sides of a row
abbrev pub is_within : Row → Result ℚ Wide → Bool
is_within row (Ok value) = is_between row.low row.high value
is_within row (Err wide) = false

-- each row's activity does
abbrev pub keeps_rows : List Row → List ℚ → Bool
keeps_rows [] point = true
keeps_rows (row ∷ rows) point = is_within row (activity_from zeroℚ row.terms point) && keeps_rows rows point
