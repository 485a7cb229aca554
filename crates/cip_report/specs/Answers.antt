-- The figures that are printed of an answer: of a program that maximises, cost and bound are negated again.
use Rattle.std.specs.Prelude.{◌≡◌, ◌<◌, ℕ, List, [], option_map, slice_index_or, length, IfSome, ⊤}
use Rattle.cip_problem.specs.Program.{Program}
use Rattle.cip_problem.specs.WellFormed.{columns}
use Rattle.cip_problem.specs.Points.{printed}
use Rattle.cip_search.specs.Figures.{Overflow, AtRow, AtCost, AtMoves, Status, Optimal, Infeasible, Unbounded, NodeLimit, Gap, Wide, NoMemory, Figures, Held, names_of}
use Rattle.cip_model.specs.declared.verdicts.Place.TheVariants.{Row, Cost}
use Rattle.cip_leaf.specs.declared.answers.Shown.{Shown}
use Rattle.cip_leaf.specs.declared.answers.Shown.TheVariants.{Place, Moves}
use Rattle.cip_report.specs.declared.figures.Ended.{Ended}
use Rattle.cip_report.specs.declared.figures.Ended.TheVariants.{Optimal as EndedOptimal, Infeasible as EndedInfeasible, Unbounded as EndedUnbounded, NodeLimit as EndedNodeLimit, Gap as EndedGap, Wide as EndedWide, NoMemory as EndedNoMemory}
use Rattle.cip_report.specs.declared.figures.Held.{Held as HeldPoint}
use Rattle.cip_report.specs.declared.figures.Answer.{Answer}

-- what overflows as it is printed, for rows of these names
abbrev pub overflow_of : List (List ℕ) → Shown → Overflow
overflow_of rows (Place (Row number)) = AtRow (slice_index_or rows number [])
overflow_of rows (Place Cost) = AtCost
overflow_of rows (Moves number) = AtMoves number

-- the end as it is printed, for rows of these names
abbrev pub status_of : List (List ℕ) → Ended → Status
status_of rows EndedOptimal = Optimal
status_of rows EndedInfeasible = Infeasible
status_of rows (EndedUnbounded ray) = Unbounded ray.items
status_of rows EndedNodeLimit = NodeLimit
status_of rows EndedGap = Gap
status_of rows (EndedWide leaf on shown) =
    Wide (record { values = leaf.items; on = on.items }) (overflow_of rows shown)
status_of rows EndedNoMemory = NoMemory

abbrev pub printed_held : Program → HeldPoint → Held
printed_held program held = record { cost = printed program held.cost; point = held.point.items }

abbrev pub figures_of : Program → Answer → Figures
figures_of program answer = record {
  status = status_of program.row_names answer.ended;
  held = option_map (printed_held program) answer.best;
  bound = option_map (printed program) answer.bound;
}

-- what is shown is of one of so many rows, or of the cost, or it is moves
abbrev pub StandsAmong : ℕ → Shown → Type 0
StandsAmong rows (Place (Row number)) = number < rows
StandsAmong rows (Place Cost) = ⊤
StandsAmong rows (Moves number) = ⊤

-- a ray has a change for each column, and a leaf that is shown a value for each whole column and a choice for each
-- semi-continuous one
abbrev pub EndedFits : Program → Ended → Type 0
EndedFits program EndedOptimal = ⊤
EndedFits program EndedInfeasible = ⊤
EndedFits program (EndedUnbounded ray) = length ray.items ≡ length program.column_names
EndedFits program EndedNodeLimit = ⊤
EndedFits program EndedGap = ⊤
EndedFits program (EndedWide leaf on shown) =
    (length leaf.items ≡ length (names_of program).wholes) × (length on.items ≡ length (names_of program).semis)
    × StandsAmong (length program.row_names) shown
EndedFits program EndedNoMemory = ⊤

-- an answer is one of a program: its point, if it holds one, has a value for each column, and its end fits
pub record AnswerFits (program : Program) (answer : Answer) : Type 0 where
  pub point : IfSome answer.best (λ held. length held.point.items ≡ columns program)
  pub ended : EndedFits program answer.ended
