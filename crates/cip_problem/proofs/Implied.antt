-- What valid rows imply at improving points.
use Rattle.std.proofs.Common.{◌≡◌, ℕ, ◌<◌, true, List, length, Option, Some, arith, slice_get}
use Rattle.std.specs.Prelude.{slice_set}
use Rattle.cip_rational.specs.Rational.{ℚ, integer, ceil}
use Rattle.cip_rational.specs.Sums.{dot}
use Rattle.cip_rational.proofs.Rational.Rounding.{ceil_le_whole}
use Rattle.cip_problem.specs.Program.{Sides, Row, Program}
use Rattle.cip_problem.specs.Activity.{value_at}
use Rattle.cip_problem.specs.Box.{Between, IsInBox, sides_at}
use Rattle.cip_problem.specs.Points.{cost_of}
use Rattle.cip_problem.proofs.Points.AtPlaces.{satisfied_at, whole_at}
use Rattle.cip_problem.specs.Aggregate.{Part, IsPartOf, bound_row, HoldsAt, AllHoldAt, Inequality, IsAggregate, bound_of, Empties, implied_sides}
use Rattle.cip_problem.proofs.Parts.{part_holds, bound_part_holds}
use Rattle.cip_problem.proofs.Aggregates.{aggregate_holds}
use Rattle.cip_problem.proofs.Bounds.{bound_holds, empty_holds, implied_hold, sum_holds}
use Rattle.cip_problem.specs.Improving.{HoldsInBox, IsValidRow, IsValid, IsBoundIn, HasNoImproving}
use Rattle.cip_problem.specs.Cuts.{CanRound, rounded, rounded_sides, cost_bound, HasWholeCosts}
use Rattle.cip_problem.specs.CutStatements.{Fits}
use Rattle.cip_problem.proofs.Rounding.{rounded_holds, sides_rounded, whole_cost}
use Rattle.cip_problem.proofs.Choices.Meeting.{set_in_box}

-- ---- sums

pub own_valid : (program : Program) (held : Option ℚ) (box : List Sides) (number : ℕ) (row : Row) → slice_get program.rows number ≡ Some row → IsValidRow program held box row
own_valid program held box number row e point i w = satisfied_at program.rows point number row i.feasible.rows e

pub row_part : (program : Program) (held : Option ℚ) (box : List Sides) (row : Row) (part : Part) → IsValidRow program held box row → IsPartOf row part → HoldsInBox program held box (HoldsAt part)
row_part program held box row part h k point i w = part_holds row part point k (h point i w)

pub column_part : (program : Program) (held : Option ℚ) (box : List Sides) (column : ℕ) (part : Part) → IsPartOf (bound_row column (sides_at box column)) part → HoldsInBox program held box (HoldsAt part)
column_part program held box column part h point i w = bound_part_holds box column part point h w

pub sum_valid : (program : Program) (held : Option ℚ) (box : List Sides) (n : ℕ) (parts : List Part) (row : Inequality) → IsAggregate n parts row → HoldsInBox program held box (AllHoldAt parts) → IsValid program held box row
sum_valid program held box n parts row h k point i w = aggregate_holds n parts row point h (k point i w)

pub rounded_valid : (program : Program) (held : Option ℚ) (box : List Sides) (row : Inequality) → CanRound program.integral row.coefficients → IsValid program held box row → IsValid program held box (rounded row)
rounded_valid program held box row h k point i w = rounded_holds program.integral row point h i.feasible.whole (k point i w)

-- ---- bounds

pub bound_valid : (program : Program) (held : Option ℚ) (box : List Sides) (row : Inequality) (b : ℚ) → Fits program row box → IsValid program held box row → cost_bound program row box ≡ Some b → IsBoundIn program held box b
bound_valid program held box row b fits h e point i w =
    sum_holds program.constant b (dot program.costs point) (bound_of row program.costs box) e
    (λ q k. bound_holds row program.costs box point q fits.coefficients (omega (arith, fits.costs)) w (h point i w) k)

pub whole_bound : (program : Program) (held : Option ℚ) (box : List Sides) (b : ℚ) → HasWholeCosts program → IsBoundIn program held box b → IsBoundIn program held box (integer (ceil b))
whole_bound program held box b whole h point i w =
    ceil_le_whole (cost_of program point) b (whole_cost program point whole i.feasible.whole) (h point i w)

pub empty_valid : (program : Program) (held : Option ℚ) (box : List Sides) (row : Inequality) → Fits program row box → IsValid program held box row → Empties row box → HasNoImproving program held box
empty_valid program held box row fits h e point i w = empty_holds row box point fits.coefficients w e (h point i w)

-- ---- columns

pub sides_valid : (program : Program) (held : Option ℚ) (box : List Sides) (row : Inequality) (column : ℕ) → Fits program row box → column < length box → IsValid program held box row → HoldsInBox program held box (λ point. Between (implied_sides row box column).low (implied_sides row box column).high (value_at point column))
sides_valid program held box row column fits inside h point i w = implied_hold row box point column fits.coefficients inside w (h point i w)

pub whole_sides : (program : Program) (held : Option ℚ) (box : List Sides) (column : ℕ) (sides : Sides) → slice_get program.integral column ≡ Some true → HoldsInBox program held box (λ point. Between sides.low sides.high (value_at point column)) → HoldsInBox program held box (λ point. Between (rounded_sides sides).low (rounded_sides sides).high (value_at point column))
whole_sides program held box column sides e h point i w =
    sides_rounded sides (value_at point column) (whole_at program.integral point column i.feasible.whole e) (h point i w)

pub narrowed : (program : Program) (held : Option ℚ) (box : List Sides) (column : ℕ) (sides : Sides) → HoldsInBox program held box (λ point. Between sides.low sides.high (value_at point column)) → HoldsInBox program held box (IsInBox (slice_set box column sides))
narrowed program held box column sides h point i w = set_in_box box column sides point w (h point i w)
