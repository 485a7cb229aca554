-- What a search found and did, as the figures that are told say it: they are those of an answer that is right beside
-- the log of the search.
use Rattle.std.specs.Prelude.{◌≡◌, ◌≢◌, ◌⊎◌, ◌++◌, ◌∷◌, [], ℕ, Bool, List, Option, None, option_map, if◌then◌else◌}
use Rattle.cip_io.specs.Sink.{SinkTells}
use Rattle.cip_events.specs.declared.traces.Trace.{Trace}
use Rattle.cip_rational.specs.Rational.{ℚ}
use Rattle.cip_problem.specs.Program.{Program}
use Rattle.cip_problem.specs.Points.{printed}
use Rattle.cip_problem.specs.Log.{Entry}
use Rattle.cip_search.specs.Searched.{IsLeast, IsCovered, IsOfOpen, IsOfParked}
use Rattle.cip_search.specs.SearchEnds as ends
use Rattle.cip_search.specs.SearchAnswers.{IsParkedLast}
use Rattle.cip_solve.specs.Mark.{Mark}
use Rattle.cip_search.specs.Figures.{Status, Infeasible, Unbounded, NoMemory, Figures}
use Rattle.cip_search.specs.Headline.{cost_of_printed}
use Rattle.cip_search.specs.Printed.{figures_of}
use Rattle.cip_report.specs.declared.figures.Ended.TheVariants.{NoMemory as LacksMemory}
use Rattle.cip_report.specs.declared.figures.Answer.{Answer}
use Rattle.cip_solve.specs.AnswerOf.{answer_of}
use Rattle.cip_solve.specs.Beginning.{root_value}
use Rattle.cip_report.specs.Traces.{kept_lines}
use Rattle.cip_solve.specs.Kits.{Stock, less_off}
use Rattle.cip_solve.specs.KitsServed.{is_alone, IsLeftAlone, IsKitAfter}
use Rattle.cip_solve.specs.Solved.{IsShownBeside, IsSolvedBy}
use Rattle.cip_solve.specs.declared.logs.Log.{Log}
use Rattle.cip_input.specs.Jobs.{Limits}
use Rattle.cip_main.specs.Answering.{Telling, AddsLog, AddsNone, Answers}

-- ---- the marks of a log

-- one log was added, and these are its marks
pub record AddsMarks (logs logs_after : List Log) (marks : List (ℕ × Mark)) : Type 0 where
  pub log : Log
  pub added : logs_after ≡ logs ++ log ∷ []
  pub marks_are : marks ≡ log.marks.items

-- no log was added, and there are no marks
pub record AddsNoMarks (logs logs_after : List Log) (marks : List (ℕ × Mark)) : Type 0 where
  pub same : logs_after ≡ logs
  pub no_marks : marks ≡ []

-- these are the marks of the log that was added, if one was
abbrev pub AreMarks : (logs logs_after : List Log) → List (ℕ × Mark) → Type 0
AreMarks logs logs_after marks = AddsMarks logs logs_after marks ⊎ AddsNoMarks logs logs_after marks

-- ---- the kit of a search

-- the kit that a search takes up: without the plugins that are off, unless no plugin is asked and it stays as it is
abbrev pub kit_of : Limits → Stock → Stock
kit_of limits stock = if limits.plain then stock else less_off limits.off stock

-- nobody is asked in a search within limits
abbrev pub goes_alone : Limits → Stock → Bool
goes_alone limits stock = is_alone limits.plain (kit_of limits stock)

-- what became of a kit: the plugins that are off were set aside, and the others served in the search; or it is as it
-- was, since memory was refused before
abbrev pub IsKitOf : Limits → List Entry → (had has : Stock) → Option Trace → (lacks : Type 0) → Type 0
IsKitOf limits log had has trace lacks =
    IsKitAfter (goes_alone limits had) limits.trace log (kit_of limits had) has trace
    ⊎ (IsLeftAlone had has trace × lacks)

-- ---- an answer

-- an answer of a search, as it is held, is right beside the log that was added, if one was; and so is what became of
-- the kit
pub record Searched
    (program : Program) (limits : Limits) (logs logs_after : List Log) (stock stock_after : Stock) (answer : Answer)
    : Type 0 where
  pub entries : List Entry
  pub marks : List (ℕ × Mark)
  pub right : IsSolvedBy program limits.nodes limits.gap limits.presolved (goes_alone limits stock) entries marks
      (answer_of answer)
  pub logged : AddsLog logs logs_after entries ⊎ (AddsNone logs logs_after entries × (answer.ended ≡ LacksMemory))
  pub marked : AreMarks logs logs_after marks
  pub kit : IsKitOf limits entries stock stock_after answer.trace (answer.ended ≡ LacksMemory)

-- ---- what is left of a search, as the figures say it

-- no ray has cut the search short
abbrev pub HasNoRay : Status → Type 0
HasNoRay status = (ray : List ℚ) → status ≢ Unbounded ray

-- the printed bound is that of what is left: in the minimised form it is the least of the printed point's cost and of
-- the bounds of open nodes and parked leaves
pub record IsLeastLeft (program : Program) (start : Option ℚ) (log : List Entry) (figures : Figures) : Type 0 where
  pub bound : Option ℚ
  pub is_printed : figures.bound ≡ option_map (printed program) bound
  pub is_least : IsLeast program start log (cost_of_printed program figures.held) bound

-- an open node or a parked leaf of the search has no bound
abbrev pub HasNoBound : Program → (start : Option ℚ) → List Entry → Type 0
HasNoBound program start log = IsOfOpen program start log None ⊎ IsOfParked log None

-- the figures leave out nothing that the search found
pub record TellsWhatIsLeft (program : Program) (start : Option ℚ) (log : List Entry) (figures : Figures) : Type 0 where
  -- each feasible point that is better than the printed one lies in the box of an open node or of a parked leaf: where
  -- none is printed, each feasible point does
  pub cover : HasNoRay figures.status → IsCovered program start log (cost_of_printed program figures.held)
  -- the printed bound is the least of what is left
  pub least : figures.status ≢ Infeasible → HasNoRay figures.status → IsLeastLeft program start log figures
  -- it is left out only where an open node or a parked leaf has none
  pub no_bound :
      figures.status ≢ Infeasible → HasNoRay figures.status → figures.bound ≡ None → HasNoBound program start log
  -- a log is empty only where memory was refused, or where presolve showed that no point is feasible
  pub empty : log ≡ [] → (figures.status ≡ NoMemory) ⊎ (figures.status ≡ Infeasible)
  -- a ray comes with the node that showed it, which was put aside, as the last one taken
  pub ray : (ray : List ℚ) → figures.status ≡ Unbounded ray → IsParkedLast log
  -- and the check of rays accepts it beside the printed point
  pub shown : (ray : List ℚ) → figures.status ≡ Unbounded ray
      → IsShownBeside program (option_map (λ held. held.point) figures.held) ray

-- ---- the figures of a search

-- true figures were told by this text of theirs, and they are those of an answer that is right beside the log that was
-- added, with the box bound as it was summed up. Of how it was searched `solved` says: from the root's bound on, with
-- no more nodes than the budget allows; and nodes were split by bounds that are as good as those of their linear
-- programs, unless a mark says what a linear program met that showed nothing. The lines that are told are those of the
-- trace, and `kit` says what became of the plugins
pub record Works
    (program : Program) (limits : Limits) (text_of : Telling) (sink sink_after : SinkTells)
    (logs logs_after : List Log) (stock stock_after : Stock) (result : ℕ) : Type 0 where
  pub answers : Answers program limits text_of sink sink_after logs logs_after result
  pub same_box : answers.box ≡ root_value program
  pub marks : List (ℕ × Mark)
  pub marked : AreMarks logs logs_after marks
  pub found : ends.Answer
  pub is_printed : answers.figures ≡ figures_of program found
  pub solved : IsSolvedBy program limits.nodes limits.gap limits.presolved (goes_alone limits stock) answers.entries
      marks found
  pub same_start : solved.start ≡ answers.start
  pub left : TellsWhatIsLeft program answers.start answers.entries answers.figures
  pub trace : Option Trace
  pub lines_are : answers.lines ≡ kept_lines trace
  pub kit : IsKitOf limits answers.entries stock stock_after trace (answers.figures.status ≡ NoMemory)
