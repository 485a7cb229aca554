-- Columns that rows don't hold: a column may go to the side at which it costs least, where no row and side keeps it
-- from going there (dual fixing).
use Rattle.std.specs.Prelude.{◌≡◌, ℕ, ◌<◌, false, true, List, Option, Some, IfSome, slice_get, length}
use Rattle.std.specs.List.{AllByRecursion}
use Rattle.cip_rational.specs.Rational.{ℚ, zeroℚ, ◌≤ℚ◌, IsWhole}
use Rattle.cip_problem.specs.Program.{Sides, Row, Program}
use Rattle.cip_problem.specs.Activity.{value_at}
use Rattle.cip_problem.specs.Box.{sides_at, sides_inside}
use Rattle.cip_problem.specs.Choices.{choice_at, is_open}
use Rattle.cip_problem.specs.Points.{IsFeasible}

-- a term lets the value of its column fall: where its row has a low side, its coefficient isn't above 0, and where it
-- has a high side, not below 0
pub record LetsFall (least most : Option ℚ) (coefficient : ℚ) : Type 0 where
  pub low : IfSome least (λ side. coefficient ≤ℚ zeroℚ)
  pub high : IfSome most (λ side. zeroℚ ≤ℚ coefficient)

-- a term lets the value of its column rise
pub record LetsRise (least most : Option ℚ) (coefficient : ℚ) : Type 0 where
  pub low : IfSome least (λ side. zeroℚ ≤ℚ coefficient)
  pub high : IfSome most (λ side. coefficient ≤ℚ zeroℚ)

-- the terms of a row on a column let its value fall, or rise
abbrev pub RowLetsFall : ℕ → Row → Type 0
RowLetsFall column row = AllByRecursion (λ t. t.column ≡ column → LetsFall row.low row.high t.coefficient) row.terms

abbrev pub RowLetsRise : ℕ → Row → Type 0
RowLetsRise column row = AllByRecursion (λ t. t.column ≡ column → LetsRise row.low row.high t.coefficient) row.terms

-- the sides that leave one value
abbrev pub fixed_sides : ℚ → Sides
fixed_sides value = record { low = Some value; high = Some value }

-- a column may take a value: it isn't semi-continuous, and where it is whole, the value is
pub record CanTake (program : Program) (column : ℕ) (value : ℚ) : Type 0 where
  pub within : column < length program.bounds
  pub plain : is_open (choice_at program.choices column) ≡ false
  pub whole : slice_get program.integral column ≡ Some true → IsWhole value
  pub inside : sides_inside (fixed_sides value) (sides_at program.bounds column) ≡ true

-- a column may fall to a value that is at most each feasible one: it costs at least 0, and no row keeps it from falling
pub record CanFallTo (program : Program) (column : ℕ) (value : ℚ) : Type 0 where
  pub takes : CanTake program column value
  pub cost : zeroℚ ≤ℚ value_at program.costs column
  pub rows : AllByRecursion (RowLetsFall column) program.rows
  pub least : (point : List ℚ) → IsFeasible program point → value ≤ℚ value_at point column

-- a column may rise to a value that is at least each feasible one
pub record CanRiseTo (program : Program) (column : ℕ) (value : ℚ) : Type 0 where
  pub takes : CanTake program column value
  pub cost : value_at program.costs column ≤ℚ zeroℚ
  pub rows : AllByRecursion (RowLetsRise column) program.rows
  pub greatest : (point : List ℚ) → IsFeasible program point → value_at point column ≤ℚ value
