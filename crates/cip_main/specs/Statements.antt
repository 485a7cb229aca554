-- The laws, each as one statement: the functions of `src/laws.rt` have them as contracts.
use Rattle.std.specs.Prelude.{◌≡◌, ◌≢◌, List, [], ◌∷◌, Option, None}
use Rattle.cip_rational.specs.Rational.{ℚ}
use Rattle.cip_problem.specs.Program.{Program}
use Rattle.cip_problem.specs.Points.{IsFeasible}
use Rattle.cip_problem.specs.Log.{Closed, Entry}
use Rattle.cip_search.specs.Figures.{Status, Infeasible, Figures}
use Rattle.cip_main.specs.Work.{HasNoRay, TellsWhatIsLeft}

-- a bound is told, if there is one
pub record TellsBound (status : Status) : Type 0 where
  pub feasible : status ≢ Infeasible
  pub no_ray : HasNoRay status

-- the log of a search and the point that is printed leave one bound to print
abbrev pub BoundsAreTold : Type 0
BoundsAreTold =
    (program : Program) (start : Option ℚ) (log : List Entry) (figures other : Figures)
    → TellsWhatIsLeft program start log figures → TellsWhatIsLeft program start log other
    → figures.held ≡ other.held → TellsBound figures.status → TellsBound other.status → figures.bound ≡ other.bound

-- the root was closed, with this bound
abbrev pub root_closed : Option ℚ → List Entry
root_closed bound = record { node = 0; bound = bound; end = Closed } ∷ []

-- once the root is closed, a point is printed wherever one is feasible
abbrev pub PointsAreTold : Type 0
PointsAreTold =
    (program : Program) (start bound : Option ℚ) (figures : Figures) (point : List ℚ)
    → IsFeasible program point → HasNoRay figures.status → TellsWhatIsLeft program start (root_closed bound) figures
    → figures.held ≢ None
