-- The values of whole columns alone, and how they come back.
use Rattle.std.specs.Prelude.{Bool, true, false, List, [], ◌∷◌}
use Rattle.cip_rational.specs.Rational.{ℚ, zeroℚ}
use Rattle.cip_problem.specs.Program.{Program}
use Rattle.cip_search.specs.Leaf.{at_wholes}
use Rattle.cip_search.specs.SearchState.{WayBack}

-- a point with these values on the whole columns, by rising column, and 0 on the others
abbrev pub with_wholes : List Bool → List ℚ → List ℚ
with_wholes [] values = []
with_wholes (false ∷ wholes) values = zeroℚ ∷ with_wholes wholes values
with_wholes (true ∷ wholes) [] = zeroℚ ∷ with_wholes wholes []
with_wholes (true ∷ wholes) (value ∷ values) = value ∷ with_wholes wholes values

-- the values of the program's whole columns that those of the reduced program's whole columns come back as
abbrev pub whole_part : (program reduced : Program) → (List ℚ → List ℚ) → List ℚ → List ℚ
whole_part program reduced post values = at_wholes program.integral (post (with_wholes reduced.integral values))

-- points and whole values come back so
abbrev pub way_of : (program reduced : Program) → (List ℚ → List ℚ) → WayBack
way_of program reduced post = record { point = post; leaf = whole_part program reduced post }
