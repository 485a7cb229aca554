-- Improving points shrink where what is held gets cheaper, and in boxes inside others.
use Rattle.std.proofs.Common.{◌≡◌, true, List, length, Option, None, Some, IfSome}
use Rattle.cip_rational.specs.Rational.{ℚ, ◌<ℚ◌}
use Rattle.cip_rational.proofs.Rational.Order.{<ℚ_of_lt_of_le}
use Rattle.cip_problem.specs.Program.{Sides, Program}
use Rattle.cip_problem.specs.Box.{box_inside}
use Rattle.cip_problem.proofs.Box.SideTests.{inner_box_holds}
use Rattle.cip_problem.specs.Points.{cost_of}
use Rattle.cip_problem.specs.Improving.{IsImproving, HoldsInBox, IsNoDearer}

still_cheaper : (cost : ℚ) (now before : Option ℚ) → IsNoDearer now before → IfSome now (λ u. cost <ℚ u) → IfSome before (λ u. cost <ℚ u)
still_cheaper cost now None h k = tt
still_cheaper cost None (Some before) h k = absurd h
still_cheaper cost (Some now) (Some before) h k = <ℚ_of_lt_of_le k h

pub fewer : (program : Program) (now before : Option ℚ) (point : List ℚ) → IsNoDearer now before → IsImproving program now point → IsImproving program before point
fewer program now before point h k =
    record { feasible = k.feasible; cheaper = still_cheaper (cost_of program point) now before h k.cheaper }

pub holds_later : (program : Program) (now before : Option ℚ) (box : List Sides) (Fact : List ℚ → Type 0) → IsNoDearer now before → HoldsInBox program before box Fact → HoldsInBox program now box Fact
holds_later program now before box Fact h k point i w = k point (fewer program now before point h i) w

pub holds_inside : (program : Program) (held : Option ℚ) (inner outer : List Sides) (Fact : List ℚ → Type 0) → length inner ≡ length outer → box_inside inner outer ≡ true → HoldsInBox program held outer Fact → HoldsInBox program held inner Fact
holds_inside program held inner outer Fact e h k point i w = k point i (inner_box_holds inner outer point e h w)
