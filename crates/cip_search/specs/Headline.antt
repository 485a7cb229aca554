-- The figures of an answer to `solve` that are true of a program, beside the log of its search within a node budget,
-- and with a gap that was asked for, or none.
-- Costs and bounds that no figure shows are those of the minimised form. `box` is the box bound of the program, which
-- is none where a side is open or a sum overflows, and `start` the bound of the search's root.
use Rattle.std.specs.Prelude.{◌≡◌, ◌≢◌, ◌⊎◌, ℕ, List, [], Option, None, Some, IfSome, IsSome, option_map, length, slice_index_or, ⊤}
use Rattle.cip_rational.specs.Rational.{ℚ}
use Rattle.cip_problem.specs.Program.{Program}
use Rattle.cip_problem.specs.Points.{IsFeasible, cost_of, printed}
use Rattle.cip_problem.specs.Log.{Entry, IsLog}
use Rattle.cip_search.specs.Leaf.{Leaf}
use Rattle.cip_search.specs.Wide.{InRow, InCost}
use Rattle.cip_search.specs.Searched.{OpenMatters, ParkedMatters}
use Rattle.cip_search.specs.WideLeaf.{Shown, AtPlace, AfterMoves, IsWideLeaf}
use Rattle.cip_search.specs.Endings.{HasWidePoint}
use Rattle.cip_search.specs.SearchEnds.{IsShownLeaf, ReachesGap, NothingIsLeft}
use Rattle.cip_search.specs.Figures.{Overflow, AtRow, AtCost, AtMoves, Status, Figures, Held}
use Rattle.cip_search.specs.Figures.{Optimal, Infeasible, Unbounded, NodeLimit, Gap, Wide, NoMemory}
use Rattle.cip_search.specs.Figures.{FitNames, status_word, names_of, answer_text}
use Rattle.cip_search.specs.AnswerHeadline.{IsBetter, printed_cost, IsTruePoint, IsTrueBound, Agree, ShowsRay}

-- the cost of the point that is printed, if one is
abbrev pub cost_of_printed : Program → Option Held → Option ℚ
cost_of_printed program held = option_map (λ held. cost_of program held.point) held

-- a point is better than the one that is printed; where none is printed, each point is
abbrev pub IsBetterThan : Program → Option Held → List ℚ → Type 0
IsBetterThan program None point = ⊤
IsBetterThan program (Some held) point = IsBetter program.maximized (printed_cost program point) held.cost

-- the printed bound is not better than the box bound, where that has a value
abbrev pub IsWithinBox : Program → (box : Option ℚ) → ℚ → Type 0
IsWithinBox program box bound = IfSome box (λ least. ¬ IsBetter program.maximized bound (printed program least))

-- ---- how a search ends

-- what overflows of a leaf, as it is printed for rows of these names
abbrev pub overflow_at : List (List ℕ) → Shown → Overflow
overflow_at rows (AtPlace (InRow number)) = AtRow (slice_index_or rows number [])
overflow_at rows (AtPlace InCost) = AtCost
overflow_at rows (AfterMoves number) = AtMoves number

-- an open node of the search matters beside the point held
abbrev pub HasOpen : Program → (start : Option ℚ) → List Entry → Option Held → Type 0
HasOpen program start log held = OpenMatters program start log (cost_of_printed program held)

-- a parked leaf of the search matters beside the point held
abbrev pub HasParked : Program → List Entry → Option Held → Type 0
HasParked program log held = ParkedMatters log (cost_of_printed program held)

-- the cost falls without end: from the printed point one may go any way along the printed ray, and no bound is printed
pub record IsEndless (program : Program) (figures : Figures) (ray : List ℚ) : Type 0 where
  pub shown : ShowsRay program figures ray
  pub no_bound : figures.bound ≡ None

-- the gap that was asked for is reached by what is printed: by a cost and a bound, as they are in the minimised form
pub record ShowsGap (program : Program) (asked : Option ℚ) (figures : Figures) : Type 0 where
  pub held : Held
  pub is_held : figures.held ≡ Some held
  pub cost : ℚ
  pub is_cost : held.cost ≡ printed program cost
  pub least : ℚ
  pub is_bound : figures.bound ≡ Some (printed program least)
  pub reached : ReachesGap asked (Some cost) (Some least)

-- the node budget is spent: the log has as many entries, and an open node matters
pub record IsSpent
    (program : Program) (start : Option ℚ) (nodes : ℕ) (log : List Entry) (held : Option Held) : Type 0 where
  pub full : length log ≡ nodes
  pub matter : HasOpen program start log held

-- an overflow is shown: no open node matters, a parked leaf does, and the leaf that is printed is that of the parked
-- node of least bound, the first of these; it is wide by what is printed: the row, the cost, or the number of moves
pub record ShowsOverflow
    (program : Program) (start : Option ℚ) (log : List Entry) (held : Option Held) (leaf : Leaf) (overflow : Overflow)
    : Type 0 where
  pub none_open : ¬ HasOpen program start log held
  pub matter : HasParked program log held
  pub by : Shown
  pub is_printed : overflow ≡ overflow_at program.row_names by
  pub shown : IsShownLeaf program start log (cost_of_printed program held) leaf by

-- what each end says; infeasible may have been shown before a node was taken; the ends by a spent budget and by a shown
-- overflow come only where the gap isn't reached
abbrev pub EndsWith : Program → (start : Option ℚ) → (nodes : ℕ) → (asked : Option ℚ) → List Entry → Figures → Status
    → Type 0
EndsWith program start nodes asked log figures Optimal =
    NothingIsLeft program start log (cost_of_printed program figures.held) × IsSome figures.held
EndsWith program start nodes asked log figures Infeasible =
    (NothingIsLeft program start log (cost_of_printed program figures.held) ⊎ (log ≡ [])) × (figures.held ≡ None)
EndsWith program start nodes asked log figures (Unbounded ray) = IsEndless program figures ray
EndsWith program start nodes asked log figures NodeLimit =
    IsSpent program start nodes log figures.held × (¬ ShowsGap program asked figures)
EndsWith program start nodes asked log figures Gap = ShowsGap program asked figures
EndsWith program start nodes asked log figures (Wide leaf overflow) =
    ShowsOverflow program start log figures.held leaf overflow × (¬ ShowsGap program asked figures)
EndsWith program start nodes asked log figures NoMemory = ⊤

-- an end that comes by what is left of the search and by what was asked: neither a ray nor want of memory has cut it
-- short
abbrev pub EndsItself : Status → Type 0
EndsItself Optimal = ⊤
EndsItself Infeasible = ⊤
EndsItself (Unbounded ray) = ⊥
EndsItself NodeLimit = ⊤
EndsItself Gap = ⊤
EndsItself (Wide leaf overflow) = ⊤
EndsItself NoMemory = ⊥

-- where nothing is left and a point is printed, cost and bound are there and agree
abbrev pub AgreeAtLast : Program → (start : Option ℚ) → List Entry → Figures → Type 0
AgreeAtLast program start log figures =
    NothingIsLeft program start log (cost_of_printed program figures.held) → IsSome figures.held → Agree figures

-- ---- the headline

-- the figures are true of a program, beside the log of the search within a node budget and with a gap that was asked
-- for, or none
pub record AreTrue
    (program : Program) (box start : Option ℚ) (nodes : ℕ) (asked : Option ℚ) (log : List Entry) (figures : Figures)
    : Type 0 where
  -- the printed point satisfies the program at the printed cost, which is printed exactly where a point is
  pub point : IfSome figures.held (IsTruePoint program)
  -- no feasible point is better than the printed bound, and the bound is not better than the box bound
  pub bound : IfSome figures.bound (IsTrueBound program)
  pub within_box : IfSome figures.bound (IsWithinBox program box)
  -- a bound is left out only where the box bound has no value, and after infeasible and unbounded
  pub no_bound :
      figures.status ≢ Infeasible → ((ray : List ℚ) → figures.status ≢ Unbounded ray)
      → figures.bound ≡ None → box ≡ None
  -- infeasible is said only where no point is feasible
  pub infeasible : figures.status ≡ Infeasible → (point : List ℚ) → ¬ IsFeasible program point
  -- cost and bound are there and agree where the answer is optimal, and wherever a search that ended by itself has left
  -- nothing beside a point
  pub agree : figures.status ≡ Optimal → Agree figures
  pub agree_at_last : EndsItself figures.status → AgreeAtLast program start log figures
  -- where an overflow is shown, each feasible point that is better than the printed one has a feasible point that is no
  -- dearer in a wide leaf
  pub overflow :
      (leaf : Leaf) (place : Overflow) → figures.status ≡ Wide leaf place
      → (point : List ℚ) → IsFeasible program point → IsBetterThan program figures.held point
      → HasWidePoint program IsWideLeaf (cost_of program point)
  -- what the end says holds; and where neither a ray nor want of memory has cut the search short, no other end that
  -- comes by itself says what holds, so that each comes exactly there
  pub ends : EndsWith program start nodes asked log figures figures.status
  pub exact :
      (status : Status) → EndsItself status → EndsItself figures.status
      → EndsWith program start nodes asked log figures status → status_word status ≡ status_word figures.status
  -- the log is one of the program
  pub logged : IsLog program log
  -- the printed text tells the figures: no others that fit the names of the program have it
  pub fit : FitNames (names_of program) figures
  pub told :
      (other : Figures) → FitNames (names_of program) other
      → answer_text (names_of program) other ≡ answer_text (names_of program) figures → other ≡ figures
