-- The row by which a block's weights sum to 1, without weights.
use Rattle.std.specs.Prelude.{[], Some}
use Rattle.cip_rational.specs.Rational.{oneℚ}
use Rattle.cip_problem.specs.Program.{Row}

abbrev pub sum_row : Row
sum_row = record { terms = []; low = Some oneℚ; high = Some oneℚ }
