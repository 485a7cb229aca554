-- Boxes that no improving point lies in.
use Rattle.std.proofs.Common.{◌≡◌, ℕ, true, false, List, [], ◌∷◌, Option, None, Some, IfSome, subst, arith, true≢false, slice_get}
use Rattle.std.proofs.lemmas.Option.{none-some, same_Some}
use Rattle.cip_rational.specs.Rational.{ℚ, ◌≤ℚ◌, ◌<ℚ◌, IsWhole, numerator}
use Rattle.cip_rational.proofs.Rational.Order.{≤ℚ_trans, not_le_of_lt, le_of_lt_test, <ℚ_of_lt_of_le, <ℚ_irrefl}
use Rattle.cip_rational.proofs.Rational.Whole.{whole_is}
use Rattle.cip_problem.specs.Program.{Sides, Program}
use Rattle.cip_problem.specs.Activity.{value_at}
use Rattle.cip_problem.specs.Box.{Between, IsInBox, sides_at}
use Rattle.cip_problem.specs.Wholes.{wholes_between, times, HasWhole}
use Rattle.cip_problem.specs.Log.{matters}
use Rattle.cip_problem.specs.Points.{cost_of}
use Rattle.cip_problem.proofs.Points.AtPlaces.{in_box_at, whole_at}
use Rattle.cip_problem.proofs.Wholes.Counts.{IsPositive, assignments_positive}
use Rattle.cip_problem.specs.Improving.{IsImproving, IsBoundIn, HasNoImproving}
use Rattle.cip_problem.specs.Cuts.{IsCrossed}

too_dear : (program : Program) (held bound : Option ℚ) (point : List ℚ) → IfSome bound (λ b. b ≤ℚ cost_of program point) → matters held bound ≡ false → IfSome held (λ cost. cost_of program point <ℚ cost) → ⊥
too_dear program None bound point h e k = true≢false e
too_dear program (Some cost) None point h e k = true≢false e
too_dear program (Some cost) (Some b) point h e k =
    <ℚ_irrefl (cost_of program point) (<ℚ_of_lt_of_le k (≤ℚ_trans (le_of_lt_test e) h))

pub bounded_at : (program : Program) (held bound : Option ℚ) (box : List Sides) (point : List ℚ) → IfSome bound (IsBoundIn program held box) → IsImproving program held point → IsInBox box point → IfSome bound (λ b. b ≤ℚ cost_of program point)
bounded_at program held None box point h i w = tt
bounded_at program held (Some b) box point h i w = h point i w

pub closed_by_bound : (program : Program) (held : Option ℚ) (box : List Sides) (bound : Option ℚ) → IfSome bound (IsBoundIn program held box) → matters held bound ≡ false → HasNoImproving program held box
closed_by_bound program held box bound h e point i w =
    too_dear program held bound point (bounded_at program held bound box point h i w) e i.cheaper

crossed : (low high : Option ℚ) (l u value : ℚ) → low ≡ Some l → high ≡ Some u → u <ℚ l → Between low high value → ⊥
crossed None high l u value e f h k = none-some l e
crossed (Some a) None l u value e f h k = none-some u f
crossed (Some a) (Some b) l u value e f h k =
    not_le_of_lt h (subst (λ t. t ≤ℚ u) (same_Some a l e) (subst (λ t. a ≤ℚ t) (same_Some b u f) (≤ℚ_trans k.above k.below)))

pub crossed_is_empty : (program : Program) (held : Option ℚ) (box : List Sides) (column : ℕ) → IsCrossed (sides_at box column) → HasNoImproving program held box
crossed_is_empty program held box column h point i w =
    crossed (sides_at box column).low (sides_at box column).high h.low_side h.high_side (value_at point column) h.low h.high h.above (in_box_at box point column w)

no_whole : (sides : Sides) (value : ℚ) → IsWhole value → Between sides.low sides.high value → wholes_between sides.low sides.high ≡ Some 0 → ⊥
no_whole sides value w h e =
    let some : HasWhole sides = record { number = numerator value; between = subst (Between sides.low sides.high) (whole_is value w) h } in
    let p : IsPositive (times (wholes_between sides.low sides.high) (Some 1)) = assignments_positive (true ∷ []) (sides ∷ []) ((λ _. some), tt) in
    let q : IsPositive (times (Some 0) (Some 1)) = subst (λ n. IsPositive (times n (Some 1))) e p in
    absurd (omega (arith, q))

pub no_whole_is_empty : (program : Program) (held : Option ℚ) (box : List Sides) (column : ℕ) → slice_get program.integral column ≡ Some true → wholes_between (sides_at box column).low (sides_at box column).high ≡ Some 0 → HasNoImproving program held box
no_whole_is_empty program held box column e n point i w =
    no_whole (sides_at box column) (value_at point column) (whole_at program.integral point column i.feasible.whole e) (in_box_at box point column w) n
