-- The least cost in a box.
use Rattle.std.specs.Prelude.{List, [], ◌∷◌, if◌then◌else◌}
use Rattle.cip_rational.specs.Rational.{ℚ, zeroℚ}
use Rattle.cip_frac.specs.Order.{same_rational}
use Rattle.cip_problem.specs.Program.{Sides}
use Rattle.cip_lin.specs.declared.outcomes.Least.{Least}
use Rattle.cip_lin.specs.declared.outcomes.Least.TheVariants.{Value}
use Rattle.cip_lin.specs.RowSums.{least_added, least_then}

-- a column without a cost adds nothing, whatever its sides
abbrev pub column_added : ℚ → ℚ → Sides → Least
column_added sum cost sides = if same_rational cost zeroℚ then Value sum else least_added sum cost sides

-- a sum with the least costs of the columns in a box added, one after another
abbrev pub least_cost_from : ℚ → List ℚ → List Sides → Least
least_cost_from sum [] box = Value sum
least_cost_from sum (cost ∷ costs) [] = Value sum
least_cost_from sum (cost ∷ costs) (sides ∷ others) =
    least_then (column_added sum cost sides) (λ more. least_cost_from more costs others)
