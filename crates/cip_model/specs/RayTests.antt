-- The tests of a ray, as the code makes them.
use Rattle.std.specs.Prelude.{Bool, true, false, ◌&&◌, ◌||◌, not, List, [], ◌∷◌, Option, None, Some, Result, Ok, Err}
use Rattle.cip_rational.specs.Rational.{ℚ, zeroℚ, le_test, lt_test}
use Rattle.cip_problem.specs.Program.{Sides, Row}
use Rattle.cip_frac.specs.declared.operations.Wide.{Wide as Overflow}
use Rattle.cip_frac.specs.Order.{same_rational}
use Rattle.cip_lin.specs.RowSums.{activity_from}

-- a value with this low side doesn't fall
abbrev pub falls_not : Option ℚ → ℚ → Bool
falls_not None change = true
falls_not (Some side) change = le_test zeroℚ change

-- a value with this high side doesn't rise
abbrev pub rises_not : Option ℚ → ℚ → Bool
rises_not None change = true
rises_not (Some side) change = le_test change zeroℚ

abbrev pub stays : Option ℚ → Option ℚ → ℚ → Bool
stays low high change = falls_not low change && rises_not high change

-- so it is with each column
abbrev pub all_stay : List Sides → List ℚ → Bool
all_stay [] ray = true
all_stay (sides ∷ others) [] = true
all_stay (sides ∷ others) (change ∷ changes) = stays sides.low sides.high change && all_stay others changes

-- no whole column changes
abbrev pub all_still : List Bool → List ℚ → Bool
all_still [] ray = true
all_still (whole ∷ others) [] = true
all_still (whole ∷ others) (change ∷ changes) =
    (not whole || same_rational change zeroℚ) && all_still others changes

-- a row with this change stays between its sides
abbrev pub row_stays : Row → Result ℚ Overflow → Bool
row_stays row (Err overflow) = false
row_stays row (Ok change) = stays row.low row.high change

-- so it is with each row
abbrev pub rows_stay : List Row → List ℚ → Bool
rows_stay [] ray = true
rows_stay (row ∷ rows) ray = row_stays row (activity_from zeroℚ row.terms ray) && rows_stay rows ray

-- the cost falls by this change
abbrev pub cost_falls : Result ℚ Overflow → Bool
cost_falls (Err overflow) = false
cost_falls (Ok change) = lt_test change zeroℚ
