-- What `reduction` answers for a side of a column, and what follows from it.
use Rattle.std.specs.Prelude.{ℕ, Bool, List, Result}
use Rattle.cip_rational.specs.Rational.{ℚ}
use Rattle.cip_problem.specs.Program.{Sides}
use Rattle.cip_lin.specs.declared.sides.Side.{Side}
use Rattle.cip_lin.specs.declared.sides.Side.TheVariants.{Low, High}
use Rattle.cip_cert.specs.declared.faults.CutFault.{CutFault}
use Rattle.cip_cert.specs.Lent.{Lent, Multiples}
use Rattle.cip_cert.specs.Checks.{low_reduced, high_reduced}
use Rattle.cip_cert.specs.Follows.{LowFollows, HighFollows}

abbrev pub reduced : Side → Lent → Bool → List Sides → ℕ → ℕ → ℚ → Multiples → Result ℚ CutFault
reduced Low = low_reduced
reduced High = high_reduced

abbrev pub SideFollows : Side → Lent → List Sides → ℕ → Bool → ℚ → Type 0
SideFollows Low = LowFollows
SideFollows High = HighFollows
