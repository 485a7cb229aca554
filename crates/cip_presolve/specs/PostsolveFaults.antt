-- When a point doesn't come back.
use Rattle.std.specs.Prelude.{List, ⊤}
use Rattle.cip_rational.specs.Rational.{ℚ}
use Rattle.cip_presolve.specs.StepsBack.{StepsTaken, OverflowsBack}
use Rattle.cip_presolve.specs.declared.faults.PostsolveFault.{PostsolveFault}
use Rattle.cip_presolve.specs.declared.faults.PostsolveFault.TheVariants.{Wide, NoMemory}

-- a number overflows where the fault says so
abbrev pub IsPostsolveFault : StepsTaken → List ℚ → PostsolveFault → Type 0
IsPostsolveFault steps point Wide = OverflowsBack steps point
IsPostsolveFault steps point NoMemory = ⊤
