-- The lists that the code makes of a leaf's program.
use Rattle.std.specs.Prelude.{◌≡◌, List}
use Rattle.cip_rational.specs.Rational.{ℚ}
use Rattle.cip_problem.specs.Program.{Program}
use Rattle.cip_search.specs.LeafProgram.{program_of_leaf}
use Rattle.cip_leaf.specs.declared.leaves.Parts.{Parts}

abbrev pub IsProgramOf : Program → List ℚ → Parts → Type 0
IsProgramOf program leaf parts =
    record { rows = parts.rows.items; bounds = parts.bounds; costs = parts.costs.items } ≡ program_of_leaf program leaf
