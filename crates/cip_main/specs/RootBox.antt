-- The box bound of a program, which figures are held against, and the bound that a search begins with.
use Rattle.std.specs.Prelude.{◌≡◌, ◌⊎◌, true, false, List, [], ◌∷◌, Option, None, Some, IfSome, option_map}
use Rattle.cip_rational.specs.Rational.{ℚ, ◌+ℚ◌, integer, ceil}
use Rattle.cip_rational.specs.Range.{fits_range, sum_overflows}
use Rattle.cip_problem.specs.Program.{Sides, Program}
use Rattle.cip_problem.specs.BoxBound.{least_cost, box_bound}
use Rattle.cip_problem.specs.Cuts.{HasWholeCosts}

-- a least cost is out of the range of numbers, or its sum with what stands before is; or what is said of that sum holds
abbrev pub LeavesWith : ℚ → (least : Option ℚ) → (ℚ → Type 0) → Type 0
LeavesWith sum None Rest = ⊥
LeavesWith sum (Some least) Rest =
    (fits_range least ≡ false) ⊎ ((sum_overflows sum least ≡ true) ⊎ Rest (sum +ℚ least))

-- as the least costs of columns are added to a sum, by rising column, one of them or a sum leaves the range of numbers
abbrev pub LeavesRange : ℚ → (costs : List ℚ) → (box : List Sides) → Type 0
LeavesRange sum [] box = ⊥
LeavesRange sum (cost ∷ costs) [] = ⊥
LeavesRange sum (cost ∷ costs) (sides ∷ others) =
    LeavesWith sum (least_cost cost sides) (λ more. LeavesRange more costs others)

-- the box bound of a program; none only where a side that it needs is open, or where a sum of it leaves the range
pub record IsBoxBound (program : Program) (box : Option ℚ) : Type 0 where
  pub value : IfSome box (λ least. box_bound program program.bounds ≡ Some least)
  pub none : box ≡ None
      → (box_bound program program.bounds ≡ None) ⊎ LeavesRange program.constant program.costs program.bounds

-- the bound of the root: the box bound, rounded up where the cost of each point with whole values on whole columns is
pub record BeginsAt (program : Program) (box start : Option ℚ) : Type 0 where
  pub whole : HasWholeCosts program → start ≡ option_map (λ bound. integer (ceil bound)) box
  pub plain : ¬ HasWholeCosts program → start ≡ box
