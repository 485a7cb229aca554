-- Boxes: the low and the high side of each column. The module below has the laws.
use Rattle.std.specs.Prelude.{◌≡◌, ℕ, Bool, true, false, ◌&&◌, List, [], ◌∷◌, Option, None, Some, IfSome, slice_index_or, int_lt}
use Rattle.std.specs.List.{AllZip}
use Rattle.cip_rational.specs.Rational.{ℚ, ◌≤ℚ◌, le_test, floor, ceil}
use Rattle.cip_problem.specs.Program.{Sides}

-- a value lies between a low and a high side; an open side lets everything through
pub record Between (low high : Option ℚ) (value : ℚ) : Type 0 where
  pub above : IfSome low (λ side. side ≤ℚ value)
  pub below : IfSome high (λ side. value ≤ℚ side)

-- one value lies between the sides, and no other
pub record HasOneValue (low high : Option ℚ) : Type 0 where
  pub value : ℚ
  pub between : Between low high value
  pub only : (other : ℚ) → Between low high other → other ≡ value

-- no side at all
abbrev pub no_sides : Sides
no_sides = record { low = None; high = None }

-- the sides of a column
abbrev pub sides_at : List Sides → ℕ → Sides
sides_at box column = slice_index_or box column no_sides

-- a point of a box has one value for each column, between its sides
abbrev pub IsInBox : List Sides → List ℚ → Type 0
IsInBox box point = AllZip (λ sides value. Between sides.low sides.high value) box point

-- ---- tests that the code answers

-- the own low side is at least as strong as the outer one
abbrev pub low_inside : Option ℚ → Option ℚ → Bool
low_inside own None = true
low_inside None (Some outer) = false
low_inside (Some own) (Some outer) = le_test outer own

-- the own high side is at least as strong as the outer one
abbrev pub high_inside : Option ℚ → Option ℚ → Bool
high_inside own None = true
high_inside None (Some outer) = false
high_inside (Some own) (Some outer) = le_test own outer

-- both sides are at least as strong as the outer ones
abbrev pub sides_inside : Sides → Sides → Bool
sides_inside own outer = low_inside own.low outer.low && high_inside own.high outer.high

-- each column's sides are at least as strong as those of the outer box
abbrev pub box_inside : List Sides → List Sides → Bool
box_inside [] outer = true
box_inside (own ∷ owns) [] = true
box_inside (own ∷ owns) (outer ∷ outers) = sides_inside own outer && box_inside owns outers

-- at least two whole numbers lie between the sides
abbrev pub two_wholes_between : Option ℚ → Option ℚ → Bool
two_wholes_between None high = true
two_wholes_between (Some low) None = true
two_wholes_between (Some low) (Some high) = int_lt (ceil low) (floor high)

-- both sides are there and equal
abbrev pub sides_equal : Option ℚ → Option ℚ → Bool
sides_equal None high = false
sides_equal (Some low) None = false
sides_equal (Some low) (Some high) = le_test low high && le_test high low

-- the value is at least the low side
abbrev pub at_least : Option ℚ → ℚ → Bool
at_least None value = true
at_least (Some side) value = le_test side value

-- the value is at most the high side
abbrev pub at_most : Option ℚ → ℚ → Bool
at_most None value = true
at_most (Some side) value = le_test value side

-- the value lies between the sides
abbrev pub is_between : Option ℚ → Option ℚ → ℚ → Bool
is_between low high value = at_least low value && at_most high value
