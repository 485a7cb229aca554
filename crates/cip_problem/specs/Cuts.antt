-- Cuts: rows that are valid in a box and below the cost held, rounding (Chvatal 1973, Gomory 1958), and what a valid
-- inequality implies for the cost and for the columns of a program.
use Rattle.std.specs.Prelude.{◌≡◌, ◌≢◌, ℕ, suc, Bool, true, List, [], ◌∷◌, Option, None, Some, if◌then◌else◌}
use Rattle.std.specs.List.{AllZip}
use Rattle.cip_rational.specs.Rational.{ℚ, ◌-ℚ◌, integer, zeroℚ, ◌<ℚ◌, IsWhole, floor, ceil, is_zero}
use Rattle.cip_problem.specs.Program.{Term, Sides, Row, Program}
use Rattle.cip_problem.specs.Box.{IsInBox}
use Rattle.cip_problem.specs.BoxBound.{sum_if_both}
use Rattle.cip_problem.specs.Points.{IsSatisfied}
use Rattle.cip_problem.specs.Aggregate.{Inequality, bound_of}

-- ---- rounding

-- a coefficient is whole, and stands on a whole column where it isn't 0
pub record CanRoundAt (whole : Bool) (coefficient : ℚ) : Type 0 where
  pub coefficient_whole : IsWhole coefficient
  pub column_whole : coefficient ≢ zeroℚ → whole ≡ true

-- each coefficient does
abbrev pub CanRound : List Bool → List ℚ → Type 0
CanRound integral coefficients = AllZip CanRoundAt integral coefficients

-- an inequality with its right side rounded up
abbrev pub rounded : Inequality → Inequality
rounded row = record { coefficients = row.coefficients; least = integer (ceil row.least) }

-- a low side rounded up, and a high side rounded down
abbrev pub rounded_low : Option ℚ → Option ℚ
rounded_low None = None
rounded_low (Some side) = Some (integer (ceil side))

abbrev pub rounded_high : Option ℚ → Option ℚ
rounded_high None = None
rounded_high (Some side) = Some (integer (floor side))

-- the sides of a whole column, rounded inward
abbrev pub rounded_sides : Sides → Sides
rounded_sides sides = record { low = rounded_low sides.low; high = rounded_high sides.high }

-- the low side is above the high side
pub record IsCrossed (sides : Sides) : Type 0 where
  pub low_side : ℚ
  pub high_side : ℚ
  pub low : sides.low ≡ Some low_side
  pub high : sides.high ≡ Some high_side
  pub above : high_side <ℚ low_side

-- ---- rows

-- coefficients that aren't 0 as terms, where the first coefficient stands on this column
abbrev pub terms_from : ℕ → List ℚ → List Term
terms_from column [] = []
terms_from column (d ∷ ds) =
    if is_zero d then terms_from (suc column) ds
    else record { column = column; coefficient = d } ∷ terms_from (suc column) ds

-- an inequality as a row
abbrev pub row_of : Inequality → Row
row_of row = record { terms = terms_from 0 row.coefficients; low = Some row.least; high = None }

-- the cutoff row: the cost is at most the cost held
abbrev pub cutoff_row : Program → ℚ → Row
cutoff_row program cost = record {
  terms = terms_from 0 program.costs;
  low = None;
  high = Some (cost -ℚ program.constant);
}

-- a row that is kept with the box in which it is valid
pub record ScopedRow : Type 0 where
  pub row : Row
  pub scope : List Sides

-- a point satisfies the row if it lies in the scope
abbrev pub HoldsInScope : ScopedRow → List ℚ → Type 0
HoldsInScope kept point = IsInBox kept.scope point → IsSatisfied kept.row point

-- ---- the cost

-- what a point of the program costs at least, in a box in which an inequality is valid: its constant, and what its
-- costs come to at least
abbrev pub cost_bound : Program → Inequality → List Sides → Option ℚ
cost_bound program row box = sum_if_both (Some program.constant) (bound_of row program.costs box)

-- at points whose whole columns have whole values the cost is a whole number: so are the constant and each cost, and
-- continuous columns cost nothing
pub record HasWholeCosts (program : Program) : Type 0 where
  pub costs : CanRound program.integral program.costs
  pub constant : IsWhole program.constant
