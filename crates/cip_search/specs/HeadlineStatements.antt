-- The laws, each as one statement: the functions of `src/lib.rt` have them as contracts.
use Rattle.std.specs.Prelude.{◌≡◌, ℕ, ◌*◌, ◌-◌, ◌<◌, max, List, length, Option, Some}
use Rattle.cip_rational.specs.Rational.{ℚ}
use Rattle.cip_problem.specs.Program.{Program}
use Rattle.cip_problem.specs.WellFormed.{IsWellFormed}
use Rattle.cip_problem.specs.Points.{IsLowerBound}
use Rattle.cip_problem.specs.Log.{Entry, root, leaf_count, IsLog}
use Rattle.cip_search.specs.Falling.{FallsWithoutEnd}
use Rattle.cip_search.specs.Figures.{Figures, Held, Status, status_word}
use Rattle.cip_search.specs.SearchEnds.{Answer}
use Rattle.cip_search.specs.Headline.{HasOpen, EndsWith, EndsItself, AgreeAtLast, AreTrue}
use Rattle.cip_search.specs.Printed.{IsPrintable, figures_of}

-- the figures that are printed of a right answer are true
abbrev pub FiguresAreTrue : Type 0
FiguresAreTrue =
    (program : Program) (box start : Option ℚ) (nodes : ℕ) (asked : Option ℚ) (log : List Entry) (answer : Answer)
    → IsWellFormed program → IsPrintable program box start nodes asked log answer
    → AreTrue program box start nodes asked log (figures_of program answer)

-- no two ends that come by themselves say what holds, as long as cost and bound agree where nothing is left, and a node
-- may be taken
abbrev pub EndsExclude : Type 0
EndsExclude =
    (program : Program) (start : Option ℚ) (nodes : ℕ) (asked : Option ℚ) (log : List Entry) (figures : Figures)
    (status other : Status)
    → 0 < nodes → AgreeAtLast program start log figures → EndsItself status → EndsItself other
    → EndsWith program start nodes asked log figures status → EndsWith program start nodes asked log figures other
    → status_word status ≡ status_word other

-- with an open node that matters a log is shorter than the most nodes that a search takes
abbrev pub BudgetsSuffice : Type 0
BudgetsSuffice =
    (program : Program) (start : Option ℚ) (log : List Entry) (held : Option Held) (n : ℕ)
    → IsLog program log → HasOpen program start log held → leaf_count program.integral (root program) ≡ Some n
    → length log < max 1 (2 * n - 1)

-- where the cost falls without end, there is no lower bound: so no run says unbounded of a program of which another
-- prints a bound
abbrev pub RaysExcludeBounds : Type 0
RaysExcludeBounds =
    (program : Program) (point ray : List ℚ) (bound : ℚ)
    → FallsWithoutEnd program point ray → ¬ IsLowerBound program bound
