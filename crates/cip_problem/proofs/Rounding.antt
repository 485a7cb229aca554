-- Rounding: what is whole at points whose whole columns have whole values.
use Rattle.std.proofs.Common.{◌≡◌, Bool, true, List, [], ◌∷◌, Option, None, Some, IfSome, sym, ap, ◌∙◌, subst}
use Rattle.cip_rational.specs.Rational.{ℚ, ◌*ℚ◌, zeroℚ, ◌≤ℚ◌, IsWhole}
use Rattle.cip_rational.specs.Sums.{dot}
use Rattle.cip_rational.proofs.Rational.Ring.{zero-*ℚ}
use Rattle.cip_rational.proofs.Rational.Compare.{ℚ_discrete}
use Rattle.cip_rational.proofs.Rational.Whole.{IsWhole-zero, IsWhole-add, IsWhole-mul}
use Rattle.cip_rational.proofs.Rational.Rounding.{ceil_le_whole, whole_le_floor}
use Rattle.cip_problem.specs.Program.{Sides, Program}
use Rattle.cip_problem.specs.Box.{Between}
use Rattle.cip_problem.specs.Points.{AreWhole, cost_of}
use Rattle.cip_problem.specs.Aggregate.{Inequality, Holds}
use Rattle.cip_problem.specs.Cuts.{CanRoundAt, CanRound, rounded, rounded_low, rounded_high, rounded_sides, HasWholeCosts}

-- ---- products and sums

whole_product : (whole : Bool) (d v : ℚ) → CanRoundAt whole d → (whole ≡ true → IsWhole v) → IsWhole (d *ℚ v)
whole_product whole d v h k = elim (ℚ_discrete d zeroℚ) [
  | yes e ↦ subst IsWhole (sym (ap (λ t. t *ℚ v) e ∙ zero-*ℚ v)) IsWhole-zero
  | no n ↦ IsWhole-mul d v h.coefficient_whole (k (h.column_whole n))
]

pub whole_sum : (integral : List Bool) (ds point : List ℚ) → CanRound integral ds → AreWhole integral point → IsWhole (dot ds point)
whole_sum [] [] point h k = IsWhole-zero
whole_sum [] (d ∷ ds) point h k = absurd h
whole_sum (w ∷ ws) [] point h k = absurd h
whole_sum (w ∷ ws) (d ∷ ds) [] h k = absurd k
whole_sum (w ∷ ws) (d ∷ ds) (v ∷ vs) h k =
    IsWhole-add (d *ℚ v) (dot ds vs) (whole_product w d v h.0 k.0) (whole_sum ws ds vs h.1 k.1)

-- ---- right sides

pub rounded_holds : (integral : List Bool) (row : Inequality) (point : List ℚ) → CanRound integral row.coefficients → AreWhole integral point → Holds row point → Holds (rounded row) point
rounded_holds integral row point h k l =
    ceil_le_whole (dot row.coefficients point) row.least (whole_sum integral row.coefficients point h k) l

-- ---- sides of a whole column

low_rounded : (low : Option ℚ) (value : ℚ) → IsWhole value → IfSome low (λ side. side ≤ℚ value) → IfSome (rounded_low low) (λ side. side ≤ℚ value)
low_rounded None value w h = tt
low_rounded (Some side) value w h = ceil_le_whole value side w h

high_rounded : (high : Option ℚ) (value : ℚ) → IsWhole value → IfSome high (λ side. value ≤ℚ side) → IfSome (rounded_high high) (λ side. value ≤ℚ side)
high_rounded None value w h = tt
high_rounded (Some side) value w h = whole_le_floor value side w h

pub sides_rounded : (sides : Sides) (value : ℚ) → IsWhole value → Between sides.low sides.high value → Between (rounded_sides sides).low (rounded_sides sides).high value
sides_rounded sides value w h =
    record { above = low_rounded sides.low value w h.above; below = high_rounded sides.high value w h.below }

-- ---- the cost

pub whole_cost : (program : Program) (point : List ℚ) → HasWholeCosts program → AreWhole program.integral point → IsWhole (cost_of program point)
whole_cost program point h k =
    IsWhole-add program.constant (dot program.costs point) h.constant (whole_sum program.integral program.costs point h.costs k)
