-- What steps of presolve find of a row, and what they put in its place.
use Rattle.std.specs.Prelude.{◌≡◌, List, Option, None, Some, if◌then◌else◌}
use Rattle.cip_rational.specs.Rational.{ℚ, ◌-ℚ◌, zeroℚ, lt_test, ◌≤ℚ◌}
use Rattle.cip_problem.specs.Program.{Term, Sides, Row}
use Rattle.cip_problem.specs.Activity.{activity}
use Rattle.cip_problem.specs.Box.{IsInBox}
use Rattle.cip_problem.specs.Choices.{greater, lesser}
use Rattle.cip_problem.specs.Points.{IsSatisfied}
use Rattle.cip_problem.specs.Aggregate.{quotient_of}

-- each point of a box satisfies a row
abbrev pub HoldsInAll : List Sides → Row → Type 0
HoldsInAll box row = (point : List ℚ) → IsInBox box point → IsSatisfied row point

-- no point of a box does
abbrev pub HoldsNowhere : List Sides → Row → Type 0
HoldsNowhere box row = (point : List ℚ) → IsInBox box point → ¬ IsSatisfied row point

-- the activity of terms is at least, or at most, a number at each point of a box
abbrev pub IsBelow : List Sides → List Term → ℚ → Type 0
IsBelow box terms least = (point : List ℚ) → IsInBox box point → least ≤ℚ activity terms point

abbrev pub IsAbove : List Sides → List Term → ℚ → Type 0
IsAbove box terms greatest = (point : List ℚ) → IsInBox box point → activity terms point ≤ℚ greatest

-- the sides of the value of a column whose product with a number other than 0 lies between two sides
abbrev pub divided_sides : ℚ → Option ℚ → Option ℚ → Sides
divided_sides coefficient low high =
    if lt_test coefficient zeroℚ
    then record { low = quotient_of high coefficient; high = quotient_of low coefficient }
    else record { low = quotient_of low coefficient; high = quotient_of high coefficient }

-- a side that is moved by a number
abbrev pub side_less : Option ℚ → ℚ → Option ℚ
side_less None shift = None
side_less (Some side) shift = Some (side -ℚ shift)

-- a row stands for another at each point of a box: its activity is the other's less a shift, and so are its sides
pub record IsShifted (box : List Sides) (old new : Row) : Type 0 where
  pub shift : ℚ
  pub activity : (point : List ℚ) → IsInBox box point → activity new.terms point ≡ activity old.terms point -ℚ shift
  pub low : new.low ≡ side_less old.low shift
  pub high : new.high ≡ side_less old.high shift

-- a row with the sides of another met
abbrev pub merged_row : Row → Row → Row
merged_row row other = record row { low = greater row.low other.low; high = lesser row.high other.high }
