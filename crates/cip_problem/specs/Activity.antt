-- The activity of a row at a point, and the columns that a row may stand on.
use Rattle.std.specs.Prelude.{ℕ, ◌<◌, List, [], ◌∷◌, slice_index_or, All}
use Rattle.cip_rational.specs.Rational.{ℚ, ◌+ℚ◌, ◌*ℚ◌, zeroℚ}
use Rattle.cip_problem.specs.Program.{Term}

-- the value of a column at a point: a list of one value for each column
abbrev pub value_at : List ℚ → ℕ → ℚ
value_at point column = slice_index_or point column zeroℚ

-- the sum of the products of a row at a point
abbrev pub activity : List Term → List ℚ → ℚ
activity [] point = zeroℚ
activity (t ∷ ts) point = (t.coefficient *ℚ value_at point t.column) +ℚ activity ts point

-- each term stands on one of the first n columns
abbrev pub StandsBelow : ℕ → List Term → Type 0
StandsBelow n terms = All (λ t. t.column < n) terms
