-- The values of a box in which each whole column has one whole value.
use Rattle.std.specs.Prelude.{Bool, true, false, List, [], ◌∷◌, Option, None, Some}
use Rattle.cip_rational.specs.Rational.{ℚ, zeroℚ, integer, ceil}
use Rattle.cip_problem.specs.Program.{Sides}

-- the least whole number above a low side, 0 where there is none
abbrev pub least_above : Option ℚ → ℚ
least_above None = zeroℚ
least_above (Some low) = integer (ceil low)

-- those of the whole columns of a box
abbrev pub least_values : List Bool → List Sides → List ℚ
least_values [] box = []
least_values (whole ∷ wholes) [] = []
least_values (true ∷ wholes) (sides ∷ box) = least_above sides.low ∷ least_values wholes box
least_values (false ∷ wholes) (sides ∷ box) = least_values wholes box
