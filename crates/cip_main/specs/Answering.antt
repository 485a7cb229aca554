-- What solving a program and reporting comes to: true figures were told to the sink, and a log was added. `Work` says
-- that they are those of what a search found.
use Rattle.std.specs.Prelude.{◌≡◌, ◌⊎◌, ◌++◌, ◌∷◌, [], ℕ, ◌≤◌, false, List, length, Option}
use Rattle.cip_io.specs.Sink.{SinkTells}
use Rattle.cip_rational.specs.Rational.{ℚ}
use Rattle.cip_problem.specs.Program.{Program}
use Rattle.cip_problem.specs.Log.{Entry}
use Rattle.cip_search.specs.Figures.{Status, NoMemory, Figures, exit_status}
use Rattle.cip_search.specs.TraceTexts.{Traced}
use Rattle.cip_search.specs.SelfTexts.{Drawn, self_text}
use Rattle.cip_search.specs.Headline.{AreTrue}
use Rattle.cip_solve.specs.Logs.{entries_of}
use Rattle.cip_solve.specs.declared.logs.Log.{Log}
use Rattle.cip_input.specs.Jobs.{Limits}
use Rattle.cip_main.specs.RootBox.{IsBoxBound, BeginsAt}
use Rattle.cip_main.specs.Saying.{Says}

-- how figures are told, with the lines of a trace: their text
abbrev pub Telling : Type 0
Telling = Figures → List Traced → List ℕ

-- how those of a program that is drawn are told: without the point and the lines
abbrev pub self_told : Drawn → Telling
self_told drawn figures lines = self_text drawn figures

-- one log was added, and these are its entries
pub record AddsLog (logs logs_after : List Log) (entries : List Entry) : Type 0 where
  pub log : Log
  pub added : logs_after ≡ logs ++ log ∷ []
  pub entries_are : entries ≡ entries_of log

-- no log was added, and there are no entries
pub record AddsNone (logs logs_after : List Log) (entries : List Entry) : Type 0 where
  pub same : logs_after ≡ logs
  pub no_entries : entries ≡ []

-- one log was added; or none was, and the status is want of memory
abbrev pub IsLogged : (logs logs_after : List Log) → List Entry → Status → Type 0
IsLogged logs logs_after entries status =
    AddsLog logs logs_after entries ⊎ (AddsNone logs logs_after entries × (status ≡ NoMemory))

-- there are figures that are true of the program beside the log that was added, if one was, within these limits, and
-- the sink was told them by this text of theirs, with the lines of the trace, if they are asked for. The search began
-- at the box bound, or at that rounded up where all costs are whole, and took no more nodes than the budget allows
pub record Answers
    (program : Program) (limits : Limits) (text_of : Telling) (sink sink_after : SinkTells)
    (logs logs_after : List Log) (result : ℕ) : Type 0 where
  pub figures : Figures
  pub box : Option ℚ
  pub start : Option ℚ
  pub entries : List Entry
  pub are_true : AreTrue program box start limits.nodes limits.gap entries figures
  pub lines : List Traced
  pub told : Says sink sink_after (text_of figures lines) (exit_status figures.status) result
  pub untraced : limits.trace ≡ false → lines ≡ []
  pub logged : IsLogged logs logs_after entries figures.status
  pub is_box : IsBoxBound program box
  pub begins : BeginsAt program box start
  pub within : length entries ≤ limits.nodes
