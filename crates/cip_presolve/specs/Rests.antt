-- A row without one of its terms, and what that says of the term's column.
use Rattle.std.specs.Prelude.{◌≡◌, ℕ, List, Option, Some, IfSome}
use Rattle.cip_rational.specs.Rational.{ℚ, ◌+ℚ◌, ◌-ℚ◌, ◌*ℚ◌, negate, ◌≤ℚ◌}
use Rattle.cip_problem.specs.Program.{Term, Sides}
use Rattle.cip_problem.specs.Activity.{activity, value_at}
use Rattle.cip_problem.specs.Box.{IsInBox}
use Rattle.cip_problem.specs.RowTerms.{column_at, coefficient_at}
use Rattle.cip_presolve.specs.RowSums.{least_side}

-- the least product of a coefficient and a value between two sides, and the greatest one: each at one of the sides
pub record IsLeastProduct (coefficient : ℚ) (sides : Sides) (product : ℚ) : Type 0 where
  pub side : ℚ
  pub is : least_side coefficient sides ≡ Some side
  pub value : product ≡ coefficient *ℚ side

pub record IsGreatestProduct (coefficient : ℚ) (sides : Sides) (product : ℚ) : Type 0 where
  pub side : ℚ
  pub is : least_side (negate coefficient) sides ≡ Some side
  pub value : product ≡ coefficient *ℚ side

-- the product of the term at a place
abbrev pub product_at : List Term → ℕ → List ℚ → ℚ
product_at terms at point = coefficient_at terms at *ℚ value_at point (column_at terms at)

-- the activity without the term at a place is at least, or at most, a number at each point of a box
abbrev pub IsRestBelow : List Sides → List Term → ℕ → ℚ → Type 0
IsRestBelow box terms at least =
    (point : List ℚ) → IsInBox box point → least +ℚ product_at terms at point ≤ℚ activity terms point

abbrev pub IsRestAbove : List Sides → List Term → ℕ → ℚ → Type 0
IsRestAbove box terms at greatest =
    (point : List ℚ) → IsInBox box point → activity terms point ≤ℚ greatest +ℚ product_at terms at point

-- the activity without the term at a place lies between these sides at each point of a box
pub record AreRests (box : List Sides) (terms : List Term) (at : ℕ) (rests : Sides) : Type 0 where
  pub below : IfSome rests.low (IsRestBelow box terms at)
  pub above : IfSome rests.high (IsRestAbove box terms at)

-- a side less a number, both of which are there
pub record IsDifference (side rest : Option ℚ) (difference : ℚ) : Type 0 where
  pub minuend : ℚ
  pub subtrahend : ℚ
  pub is_side : side ≡ Some minuend
  pub is_rest : rest ≡ Some subtrahend
  pub value : difference ≡ minuend -ℚ subtrahend
