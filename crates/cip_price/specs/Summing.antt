-- What the Lagrangian bound of a round comes to.
use Rattle.std.specs.Prelude.{◌≡◌, List, Result, Ok, Err, ⊤}
use Rattle.cip_rational.specs.Rational.{ℚ}
use Rattle.cip_cert.specs.declared.pricing.BoundTree.{BoundTree}
use Rattle.cip_lagrange.specs.declared.answers.TreeBound.{TreeBound}
use Rattle.cip_lagrange.specs.declared.answers.TreeBound.TheVariants.{Finite, NoPoint as NoneThere}
use Rattle.cip_lagrange.specs.declared.answers.LagrangeFault.{LagrangeFault}
use Rattle.cip_lagrange.specs.declared.answers.LagrangeFault.TheVariants.{Wide as SumWide, NoSide, NoRest, Tree}
use Rattle.cip_master.specs.MasterTasks.{Task}
use Rattle.cip_price.specs.PriceAnswers.{BoundsBox}
use Rattle.cip_price.specs.PricedRounds.{sum_of_round}
use Rattle.cip_price.specs.declared.bounding.Summed.{Summed}
use Rattle.cip_price.specs.declared.bounding.Summed.TheVariants.{Number, Nothing, Wide}

-- a bound as a number, if it is one; a fault, which may be that the sum is out of range
abbrev pub summed_bound : TreeBound → Summed
summed_bound (Finite bound) = Number bound
summed_bound NoneThere = Nothing

abbrev pub summed_fault : LagrangeFault → Summed
summed_fault SumWide = Wide
summed_fault (NoSide row) = Nothing
summed_fault (NoRest col) = Nothing
summed_fault (Tree block fault) = Nothing

-- a sum: a bound, or a fault
abbrev pub summed_of : Result TreeBound LagrangeFault → Summed
summed_of (Ok bound) = summed_bound bound
summed_of (Err fault) = summed_fault fault

-- it is that of multipliers and trees
abbrev pub IsSummed : Task → List ℚ → List BoundTree → Summed → Type 0
IsSummed task multipliers trees summed = summed ≡ summed_of (sum_of_round task multipliers trees)

-- no feasible point in the box costs less
abbrev pub SumHolds : Task → Summed → Type 0
SumHolds task (Number bound) = BoundsBox task bound
SumHolds task Nothing = ⊤
SumHolds task Wide = ⊤
