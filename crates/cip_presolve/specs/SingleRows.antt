-- Rows with one term, and what they say of its column.
use Rattle.std.specs.Prelude.{◌≡◌, Bool, [], ◌∷◌, Option, if◌then◌else◌}
use Rattle.cip_rational.specs.Rational.{ℚ}
use Rattle.cip_problem.specs.Program.{Term, Sides, Row}
use Rattle.cip_search.specs.Cuts.{rounded_sides}
use Rattle.cip_search.specs.RowSteps.{divided_sides}

-- a row has this term alone
abbrev pub HasOneTerm : Row → Term → Type 0
HasOneTerm row term = row.terms ≡ term ∷ []

-- sides, rounded inward where a column is whole
abbrev pub inward_if : Bool → Sides → Sides
inward_if whole sides = if whole then rounded_sides sides else sides

-- the sides of a value whose product with a number other than 0 lies between two sides
abbrev pub single_sides : Bool → ℚ → Option ℚ → Option ℚ → Sides
single_sides whole coefficient low high = inward_if whole (divided_sides coefficient low high)
