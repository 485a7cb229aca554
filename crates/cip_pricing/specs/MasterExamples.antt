-- The master program of the two blocks that `cip_pricing` works out, with 1 and 0 held in both: the weights are at
-- least
-- 0, each is 1, both together are at most 3, and each costs -2.
use Rattle.std.specs.Prelude.{ℕ, [], ◌∷◌, Some}
use Rattle.cip_rational.specs.Rational.{whole, oneℚ}
use Rattle.cip_problem.specs.Program.{Row}
use Rattle.cip_problem.specs.LinearProgram.{LinearProgram}
use Rattle.cip_problem.specs.LinearExamples.{unit_box}
use Rattle.cip_pricing.specs.MasterForms.{weight_sides}
use Rattle.cip_pricing.specs.Examples.{at_most_three, example, two_blocks, held_in_both}
use Rattle.cip_pricing.specs.MasterPrograms.{IsMasterProgram}

-- a weight is 1
abbrev pub one_weight : ℕ → Row
one_weight weight = record {
  terms = record { column = weight; coefficient = oneℚ } ∷ [];
  low = Some oneℚ;
  high = Some oneℚ;
}

abbrev pub example_master : LinearProgram
example_master = record {
  rows = at_most_three 2 0 oneℚ ∷ one_weight 0 ∷ one_weight 1 ∷ [];
  bounds = weight_sides ∷ weight_sides ∷ [];
  costs = whole 0 2 ∷ whole 0 2 ∷ [];
}

abbrev pub MasterExample : Type 0
MasterExample = IsMasterProgram example two_blocks (unit_box 4) held_in_both example_master
