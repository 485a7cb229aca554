-- What holds of a point of a box, of whole values and of satisfied rows, at each place.
use Rattle.std.proofs.Common.{◌≡◌, ℕ, zero, suc, true, Bool, List, [], ◌∷◌, length, Some, slice_get, subst}
use Rattle.std.specs.List.{AllByRecursion}
use Rattle.std.proofs.lemmas.Option.{none-some, same_Some}
use Rattle.std.proofs.lemmas.Slice.Zip.{AllZip-long}
use Rattle.cip_rational.specs.Rational.{ℚ, IsWhole}
use Rattle.cip_problem.specs.Program.{Sides, Row}
use Rattle.cip_problem.specs.Activity.{value_at}
use Rattle.cip_problem.specs.Box.{Between, IsInBox, sides_at}
use Rattle.cip_problem.specs.Points.{IsSatisfied, AreWhole}

-- a point of a box has as many values as that has columns
pub IsInBox-long : (box : List Sides) (point : List ℚ) → IsInBox box point → length point ≡ length box
IsInBox-long box point h = AllZip-long _ box point h

-- the value of a column lies between its sides
pub in_box_at : (box : List Sides) (point : List ℚ) (column : ℕ) → IsInBox box point → Between (sides_at box column).low (sides_at box column).high (value_at point column)
in_box_at [] point column h = record { above = tt; below = tt }
in_box_at (s ∷ ss) [] column h = absurd h
in_box_at (s ∷ ss) (v ∷ vs) zero h = h.0
in_box_at (s ∷ ss) (v ∷ vs) (suc column) h = in_box_at ss vs column h.1

-- the value of a whole column is whole
pub whole_at : (integral : List Bool) (point : List ℚ) (column : ℕ) → AreWhole integral point → slice_get integral column ≡ Some true → IsWhole (value_at point column)
whole_at [] point column h e = absurd (none-some true e)
whole_at (w ∷ ws) [] column h e = absurd h
whole_at (w ∷ ws) (v ∷ vs) zero h e = h.0 (same_Some w true e)
whole_at (w ∷ ws) (v ∷ vs) (suc column) h e = whole_at ws vs column h.1 e

-- the row of a number is satisfied
pub satisfied_at : (rows : List Row) (point : List ℚ) (number : ℕ) (row : Row) → AllByRecursion (λ row. IsSatisfied row point) rows → slice_get rows number ≡ Some row → IsSatisfied row point
satisfied_at [] point number row h e = absurd (none-some row e)
satisfied_at (r ∷ rs) point zero row h e = subst (λ r. IsSatisfied r point) (same_Some r row e) h.0
satisfied_at (r ∷ rs) point (suc number) row h e = satisfied_at rs point number row h.1 e
