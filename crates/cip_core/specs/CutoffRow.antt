-- The cutoff row of what is held: the costs come to no more than the cost held less the constant.
use Rattle.std.specs.Prelude.{Option, None, Some, if◌then◌else◌}
use Rattle.cip_rational.specs.Rational.{ℚ, ◌-ℚ◌}
use Rattle.cip_rational.specs.Range.{difference_overflows}
use Rattle.cip_problem.specs.Program.{Row, Program}
use Rattle.cip_problem.specs.Cuts.{terms_from}

-- its high side, which is open where nothing is held, and where the difference overflows
abbrev pub cutoff_side : Program → Option ℚ → Option ℚ
cutoff_side program None = None
cutoff_side program (Some cost) =
    if difference_overflows cost program.constant then None else Some (cost -ℚ program.constant)

abbrev pub cutoff_of : Program → Option ℚ → Row
cutoff_of program held = record { terms = terms_from 0 program.costs; low = None; high = cutoff_side program held }

-- a row, if there is one, with another high side
abbrev pub with_high : Option Row → Option ℚ → Option Row
with_high None side = None
with_high (Some row) side = Some (record row { high = side })
