-- Bounds that hold in boxes, and what matters.
use Rattle.std.proofs.Common.{◌≡◌, true, List, Option, None, Some, IfSome, refl, subst}
use Rattle.cip_rational.specs.Rational.{ℚ, ◌≤ℚ◌}
use Rattle.cip_rational.proofs.Rational.Order.{≤ℚ_refl, test_of_lt, lt_of_test, <ℚ_of_le_of_lt, <ℚ_of_lt_of_le}
use Rattle.cip_problem.specs.Program.{Sides, Program}
use Rattle.cip_problem.specs.Box.{IsInBox}
use Rattle.cip_problem.specs.Points.{cost_of}
use Rattle.cip_problem.specs.Log.{matters}
use Rattle.cip_problem.specs.Improving.{IsImproving, HoldsInBox, IsBoundIn, IsNoDearer}
use Rattle.cip_problem.proofs.Improving.{holds_later}
use Rattle.cip_search.specs.Searched.{NoMore}

-- a bound holds in a box
abbrev pub HoldsThere : Program → Option ℚ → Option ℚ → List Sides → Type 0
HoldsThere program held bound box = IfSome bound (IsBoundIn program held box)

pub no_more_itself : (a : Option ℚ) → NoMore a a
no_more_itself None = tt
no_more_itself (Some a) = ≤ℚ_refl a

pub no_more_same : (a b : Option ℚ) → a ≡ b → NoMore a b
no_more_same a b e = subst (NoMore a) e (no_more_itself a)

-- it holds in a box all of whose improving points are in that box
pub there_inside : (program : Program) (held bound : Option ℚ) (outer inner : List Sides) → HoldsInBox program held inner (IsInBox outer) → HoldsThere program held bound outer → HoldsThere program held bound inner
there_inside program held None outer inner f h = tt
there_inside program held (Some b) outer inner f h = λ point i w. h point i (f point i w)

-- and goes on holding where what is held gets cheaper
pub there_later : (program : Program) (now before bound : Option ℚ) (box : List Sides) → IsNoDearer now before → HoldsThere program before bound box → HoldsThere program now bound box
there_later program now before None box h k = tt
there_later program now before (Some b) box h k = holds_later program now before box (λ point. b ≤ℚ cost_of program point) h k

pub at_point : (program : Program) (held bound : Option ℚ) (box : List Sides) (point : List ℚ) → HoldsThere program held bound box → IsImproving program held point → IsInBox box point → IfSome bound (λ b. b ≤ℚ cost_of program point)
at_point program held None box point h i w = tt
at_point program held (Some b) box point h i w = h point i w

-- what doesn't matter has no improving point
pub matters_at : (program : Program) (held bound : Option ℚ) (point : List ℚ) → IsImproving program held point → IfSome bound (λ b. b ≤ℚ cost_of program point) → matters held bound ≡ true
matters_at program None bound point i h = refl
matters_at program (Some cost) None point i h = refl
matters_at program (Some cost) (Some b) point i h = test_of_lt (<ℚ_of_le_of_lt h i.cheaper)

-- what matters beside what is held matters beside what was held before
pub matters_before : (now before bound : Option ℚ) → IsNoDearer now before → matters now bound ≡ true → matters before bound ≡ true
matters_before now None bound h k = refl
matters_before None (Some before) bound h k = absurd h
matters_before (Some now) (Some before) None h k = refl
matters_before (Some now) (Some before) (Some b) h k = test_of_lt (<ℚ_of_lt_of_le (lt_of_test k) h)
