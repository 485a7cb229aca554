-- What a search begins with.
use Rattle.std.specs.Prelude.{◌≡◌, ◌^◌, ℕ, true, false, [], Option, option_map}
use Rattle.cip_rational.specs.Rational.{ℚ, integer, ceil}
use Rattle.cip_problem.specs.Program.{Program}
use Rattle.cip_problem.specs.WellFormed.{columns}
use Rattle.cip_problem.specs.Box.{sides_at}
use Rattle.cip_problem.specs.Cuts.{HasWholeCosts}
use Rattle.cip_incumbent.specs.HeldPoint.{nothing_held}
use Rattle.cip_model.specs.Least.{least_cost_from}
use Rattle.cip_node_rules.specs.OpenColumns.{is_whole_at}
use Rattle.cip_node_rules.specs.RootBounds.{least_value}
use Rattle.cip_node_rules.specs.SplitRules.{AreNear}
use Rattle.cip_tree.specs.Moves.{IsNew}
use Rattle.cip_presolve.specs.StepsBack.{StepsTaken}
use Rattle.cip_core.specs.Entering.{own_region}
use Rattle.cip_core.specs.CoreStates.{CoreState, IsKeptIn}

-- the box bound of a program, none where a side is open or a sum of it overflows
abbrev pub root_value : Program → Option ℚ
root_value program = least_value (least_cost_from program.constant program.costs program.bounds)

-- the bound of the root: the box bound, rounded up where the cost of each point with whole values on whole columns is
pub record IsRootBound (program : Program) (start : Option ℚ) : Type 0 where
  pub whole : HasWholeCosts program → start ≡ option_map (λ bound. integer (ceil bound)) (root_value program)
  pub plain : ¬ HasWholeCosts program → start ≡ root_value program

-- the whole numbers next to the sides of whole columns have sizes of at most 2^100
abbrev pub AreNearColumns : Program → Type 0
AreNearColumns program =
    (column : ℕ) → is_whole_at program.integral column ≡ true → AreNear (2 ^ 100) (sides_at program.bounds column)

-- a search that has not begun of a program that was reduced: its root is open, with the reduced program's box and the
-- box bound of the program as read, no row is in the pool, and no point is held
pub record HasNotBegun (program reduced : Program) (steps : StepsTaken) (core : CoreState) : Type 0 where
  pub program_is : core.program ≡ program
  pub reduced_is : core.reduced ≡ reduced
  pub steps_are : core.steps ≡ steps
  pub root : IsRootBound program core.tree.root.bound
  pub new : IsNew core.tree (own_region reduced) reduced.integral core.tree.root.bound
  pub kept : IsKeptIn core []
  pub pool : core.pool ≡ record { columns = columns reduced; rows = []; next = 0 }
  pub nothing : core.incumbent ≡ nothing_held (columns program)
  pub untouched : core.touched ≡ false
