-- The lines of a first state, behind so many columns.
use Rattle.std.specs.Prelude.{ℕ, ◌+◌, ◌≤◌, ⊤}
use Rattle.cip_bland.specs.declared.places.Line.{Line}
use Rattle.cip_bland.specs.declared.places.Line.TheVariants as line
use Rattle.cip_model.specs.declared.verdicts.Place.{Place}
use Rattle.cip_model.specs.declared.verdicts.Place.TheVariants.{Row, Cost}

-- the line of a row or of the cost
abbrev pub line_of : ℕ → Place → Line
line_of columns (Row number) = line.Row (columns + number)
line_of columns Cost = line.Cost

-- a line is that of a row or of the cost
abbrev pub IsValueLine : ℕ → Line → Type 0
IsValueLine columns (line.Row variable) = columns ≤ variable
IsValueLine columns line.Cost = ⊤
