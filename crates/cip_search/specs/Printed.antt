-- The figures that are printed of what a search answers: of a program that maximises, cost and bound are negated again.
use Rattle.std.specs.Prelude.{◌≡◌, ◌≢◌, ℕ, ◌<◌, List, Option, option_map, length}
use Rattle.cip_rational.specs.Rational.{ℚ}
use Rattle.cip_problem.specs.Program.{Program}
use Rattle.cip_problem.specs.WellFormed.{columns}
use Rattle.cip_problem.specs.Points.{printed}
use Rattle.cip_problem.specs.Log.{Entry}
use Rattle.cip_search.specs.Searched.{NoMore}
use Rattle.cip_search.specs.SearchEnds.{Held, Answer, IsAnswer}
use Rattle.cip_search.specs.SearchEnds.{Ended, Optimal, Infeasible, Unbounded, NodeLimit, Gap, Wide, NoMemory}
use Rattle.cip_search.specs.Figures.{Status, Figures, Held as PrintedHeld}
use Rattle.cip_search.specs.Figures.{Optimal as PrintedOptimal, Infeasible as PrintedInfeasible}
use Rattle.cip_search.specs.Figures.{Unbounded as PrintedUnbounded, NodeLimit as PrintedNodeLimit}
use Rattle.cip_search.specs.Figures.{Gap as PrintedGap, Wide as PrintedWide, NoMemory as PrintedNoMemory}
use Rattle.cip_search.specs.Headline.{overflow_at}

-- the end as it is printed, for rows of these names
abbrev pub status_of : List (List ℕ) → Ended → Status
status_of rows Optimal = PrintedOptimal
status_of rows Infeasible = PrintedInfeasible
status_of rows (Unbounded ray) = PrintedUnbounded ray
status_of rows NodeLimit = PrintedNodeLimit
status_of rows Gap = PrintedGap
status_of rows (Wide leaf shown) = PrintedWide leaf (overflow_at rows shown)
status_of rows NoMemory = PrintedNoMemory

abbrev pub printed_held : Program → Held → PrintedHeld
printed_held program held = record { cost = printed program held.cost; point = held.point }

abbrev pub figures_of : Program → Answer → Figures
figures_of program answer = record {
  status = status_of program.row_names answer.ended;
  held = option_map (printed_held program) answer.held;
  bound = option_map (printed program) answer.bound;
}

-- an answer within a budget of at least one node is right beside its log; its bound is not below the box bound, after
-- infeasible and unbounded aside; and a ray has a change for each column
pub record IsPrintable
    (program : Program) (box start : Option ℚ) (nodes : ℕ) (asked : Option ℚ) (log : List Entry) (answer : Answer)
    : Type 0 where
  pub some : 0 < nodes
  pub right : IsAnswer program start nodes asked log answer
  pub bound : answer.ended ≢ Infeasible → ((ray : List ℚ) → answer.ended ≢ Unbounded ray) → NoMore box answer.bound
  pub ray : (ray : List ℚ) → answer.ended ≡ Unbounded ray → length ray ≡ columns program
