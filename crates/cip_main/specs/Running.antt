-- What a call of `run` does: by the words, what the store tells, what the sink took, the kit of plugins, and the logs.
use Rattle.std.specs.Prelude.{◌≡◌, ◌≢◌, ◌⊎◌, ⊤, true, ℕ, ◌*◌, ◌-◌, ◌≤◌, max, List, [], ◌∷◌, ◌++◌, length}
use Rattle.std.specs.Prelude.{Option, None, Some, IfSome, IsSomeAnd}
use Rattle.cip_io.specs.Faults.{Rose}
use Rattle.cip_io.specs.Store.{StoreTells}
use Rattle.cip_io.specs.Sink.{SinkTells}
use Rattle.cip_rational.specs.Rational.{ℚ}
use Rattle.cip_problem.specs.Program.{Program}
use Rattle.cip_problem.specs.Log.{root, leaf_count}
use Rattle.cip_search.specs.Leaf.{Leaf}
use Rattle.cip_text_rules.specs.LineTexts.{HasResult, HasFault as HasLineFault}
use Rattle.cip_problem.specs.BlockParts.{Blocks as Parts}
use Rattle.cip_text_rules.specs.BlockRules.{block_reading}
use Rattle.cip_text_rules.specs.PointRules.{point_reading}
use Rattle.cip_input.specs.Generated.{generated, entries_of as coefficients_of}
use Rattle.cip_search.specs.SelfTexts.{Drawn}
use Rattle.cip_search.specs.TraceTexts.{traced_text}
use Rattle.cip_input.specs.Jobs.{Limits, Job, Solve, Check, Generate, usual_limits}
use Rattle.cip_main.specs.Models.{is_lp_name, HasModel, HasModelFault, is_lp_kind, model_kind_number}
use Rattle.cip_main.specs.TextPulls.{IsAllPulled}
use Rattle.cip_main.specs.ModelKind.{ModelKind}
use Rattle.cip_main.specs.TextFault.{TextFault}
use Rattle.cip_search.specs.Figures.{NodeLimit, Gap, Wide, Overflow, NoMemory as LacksMemory, names_of}
use Rattle.cip_search.specs.Headline.{ShowsGap, IsSpent, ShowsOverflow, EndsItself}
use Rattle.cip_search.specs.Checks.{check_text, check_status}
use Rattle.cip_model.specs.Verdicts.{verdict_of}
use Rattle.cip_model.specs.Meaning.{VerdictHolds}
use Rattle.cip_model.specs.declared.verdicts.Place.{Place}
use Rattle.cip_model.specs.declared.verdicts.Verdict.{Verdict}
use Rattle.cip_model.specs.declared.verdicts.Verdict.TheVariants as verdicts
use Rattle.cip_main.specs.Log.{Log}
use Rattle.cip_main.specs.Logs.{entries_of}
use Rattle.cip_events.specs.declared.traces.Trace.{Trace}
use Rattle.cip_main.specs.Traces.{kept_lines}
use Rattle.cip_main.specs.Kits.{Stock}
use Rattle.cip_main.specs.BlockKindTexts.{kind_number as block_kind_number}
use Rattle.cip_main.specs.BlockKind.{BlockKind}
use Rattle.cip_main.specs.PointKindTexts.{kind_number as point_kind_number}
use Rattle.cip_main.specs.PointKind.{PointKind}
use Rattle.cip_input.specs.declared.refusals.FaultyText.{FaultyText}
use Rattle.cip_input.specs.declared.refusals.FaultyText.TheVariants.{Model, Blocks, Point}
use Rattle.cip_input.specs.declared.plain.Plain.{Plain}
use Rattle.cip_input.specs.declared.plain.Plain.TheVariants.{Usage, ReadFault, Refused, NoMemory}
use Rattle.cip_main.specs.Answering.{Telling, self_told, Answers}
use Rattle.cip_main.specs.Checking.{checked}
use Rattle.cip_main.specs.Work.{Works, IsKitOf}
use Rattle.cip_input.specs.Plain.{plain_text, plain_status}
use Rattle.cip_main.specs.Saying.{Says}
use Rattle.cip_input.specs.Tasks.{TaskCause, model_of, model_in, second_of}

-- a call: the job that its words mean, if they are accepted, and the plugins that they want to be off are there; store,
-- sink, kit and logs before and after it; its status
pub record Call : Type 0 where
  pub job : Option Job
  pub store : StoreTells
  pub store_after : StoreTells
  pub sink : SinkTells
  pub sink_after : SinkTells
  pub kit : Stock
  pub kit_after : Stock
  pub logs : List Log
  pub logs_after : List Log
  pub status : ℕ

-- a call, from what the store, the sink and the kit told before and after it
abbrev pub call_of : Option Job → (store store_after : StoreTells) → (sink sink_after : SinkTells)
    → (kit kit_after : Stock) → (logs logs_after : List Log) → (status : ℕ) → Call
call_of job store store_after sink sink_after kit kit_after logs logs_after status = record {
  job = job;
  store = store;
  store_after = store_after;
  sink = sink;
  sink_after = sink_after;
  kit = kit;
  kit_after = kit_after;
  logs = logs;
  logs_after = logs_after;
  status = status;
}

-- a text describes a program, or has its first fault at this line, of this kind: as an LP text where the name of the
-- model's text that the words name ends in `.lp`, and else as one of free MPS
abbrev pub HasProgram : Call → (text : List ℕ) → Program → Type 0
HasProgram call text program = IsSomeAnd (model_in call.job) (λ model. HasModel model text program)

abbrev pub HasFault : Call → (text : List ℕ) → (line kind : ℕ) → Type 0
HasFault call text line kind = IsSomeAnd (model_in call.job) (λ model. HasModelFault model text line kind)

-- no call of the store has failed, unless its count of faults stands at its last value
abbrev pub IsStoreSound : Call → Type 0
IsStoreSound call = call.store_after.faults ≡ call.store.faults

-- no call of the sink has failed, unless its count of faults stands at its last value
abbrev pub IsSinkSound : Call → Type 0
IsSinkSound call = call.sink_after.faults ≡ call.sink.faults

-- an answer without figures is given, for the cause that goes with it: the sink took exactly its text, and the status
-- is the answer's; or the sink failed, the status is 5, and it took a front part of the text. No search was made, and
-- the kit is as it was
pub record GivesPlain (call : Call) (answer : Plain) : Type 0 where
  pub cause : TaskCause call.job call.store call.store_after answer
  pub tells : Says call.sink call.sink_after (plain_text answer) (plain_status answer) call.status
  pub no_search : call.logs_after ≡ call.logs
  pub same_kit : call.kit_after ≡ call.kit

-- true figures of the program were told to the sink by this text of theirs, beside the log of a search within these
-- limits
abbrev pub TellsBy : Call → Program → Limits → Telling → Type 0
TellsBy call program limits text_of =
    Answers program limits text_of call.sink call.sink_after call.logs call.logs_after call.status

-- they were told as an answer to `solve`, with the lines of a trace, if they are asked for
abbrev pub TellsTruth : Call → Program → Limits → Type 0
TellsTruth call program limits = TellsBy call program limits (traced_text (names_of program))

-- what the test of a point says was told to the sink: exactly its text, with its status; it holds of the program and
-- the point, no search was made, and the kit is as it was
pub record TellsVerdict (call : Call) (program : Program) (point : List ℚ) : Type 0 where
  pub tells : Says call.sink call.sink_after (check_text (checked program point)) (check_status (checked program point))
      call.status
  pub holds : VerdictHolds program point (verdict_of program point)
  pub no_search : call.logs_after ≡ call.logs
  pub same_kit : call.kit_after ≡ call.kit

-- no blocks are named, or this text, if it is told, has blocks of the program
abbrev pub BlocksAreRead : Program → (blocks : Option (List ℕ)) → StoreTells → Type 0
BlocksAreRead program None store = ⊤
BlocksAreRead program (Some name) store =
    IfSome (store.holds name) (λ text. (parts : Parts) × HasResult (block_reading program) text parts)

-- the text of this name, if there is one, was pulled, from `between` on; and where there is none, nothing was
abbrev pub IsPulledBehind : (name : Option (List ℕ)) → (old between new : StoreTells) → Type 0
IsPulledBehind None old between new = new ≡ between
IsPulledBehind (Some name) old between new = IsAllPulled (old.holds name) new

-- the text of a model, if there is one, was pulled whole, and behind it the second text, if there is one; `between` is
-- the store between the two. What a store tells is left of a text is of the last one alone
pub record ArePulled (model second : Option (List ℕ)) (old new : StoreTells) : Type 0 where
  pub between : StoreTells
  pub model_pulled : IsPulledBehind model old old between
  pub second_pulled : IsPulledBehind second old between new

-- the program is that of the text that the words name, which was read with the blocks that they name; its figures are
-- told as an answer to `solve`
pub record IsOfText (call : Call) (program : Program) (limits : Limits) (text_of : Telling) : Type 0 where
  pub model : List ℕ
  pub blocks : Option (List ℕ)
  pub asked : call.job ≡ Some (Solve model blocks limits)
  pub is_read : IfSome (call.store.holds model) (λ text. HasModel model text program)
  pub are_read : BlocksAreRead program blocks call.store
  pub pulled : ArePulled (Some model) blocks call.store call.store_after
  pub told : text_of ≡ traced_text (names_of program)

-- what is told of the program that is drawn from a seed, with so many columns and rows
abbrev pub drawn_as : (seed columns rows : ℕ) → Drawn
drawn_as seed columns rows = record {
  seed = seed;
  columns = columns;
  rows = rows;
  entries = coefficients_of (generated seed columns rows);
}

-- the program is the one that is drawn from the seed that the words name, and the limits are the usual ones; its
-- figures are told as an answer to `self`. Nothing was pulled
pub record IsOfSeed (call : Call) (program : Program) (limits : Limits) (text_of : Telling) : Type 0 where
  pub seed : ℕ
  pub columns : ℕ
  pub rows : ℕ
  pub asked : call.job ≡ Some (Generate seed columns rows)
  pub is_drawn : program ≡ generated seed columns rows
  pub usual : limits ≡ usual_limits
  pub told : text_of ≡ self_told (drawn_as seed columns rows)
  pub untouched : call.store_after ≡ call.store

-- an answer with figures of a program: of the one of the text that the words name, or of the one that is drawn
pub record IsAnswered (call : Call) : Type 0 where
  pub program : Program
  pub limits : Limits
  pub text_of : Telling
  pub source : IsOfText call program limits text_of ⊎ IsOfSeed call program limits text_of
  pub answers : TellsBy call program limits text_of
  pub sound : IsStoreSound call

-- an answer with the verdict on the point of a text in the program of a text, both of which the words name
pub record IsChecked (call : Call) : Type 0 where
  pub model : List ℕ
  pub name : List ℕ
  pub asked : call.job ≡ Some (Check model name)
  pub program : Program
  pub is_read : IfSome (call.store.holds model) (λ text. HasModel model text program)
  pub point : List ℚ
  pub is_point : IfSome (call.store.holds name) (λ text. HasResult (point_reading program) text point)
  pub verdict : TellsVerdict call program point
  pub pulled : ArePulled (Some model) (Some name) call.store call.store_after
  pub sound : IsStoreSound call

-- what a call does
pub data Ran (call : Call) : Type 0 where
  gives_plain : (answer : Plain) → GivesPlain call answer → Ran call
  gives_figures : IsAnswered call → Ran call
  gives_verdict : IsChecked call → Ran call

-- ---- what follows, each by its name

-- the status is one of those that the program ends with
pub data IsStatus : ℕ → Type 0 where
  solved : IsStatus 0
  broken : IsStatus 1
  usage : IsStatus 2
  read_fault : IsStatus 3
  refused : IsStatus 4
  write_fault : IsStatus 5
  no_memory : IsStatus 6
  spent : IsStatus 10
  wide : IsStatus 11
  near : IsStatus 13

-- the words ask for the program of a text, within limits
pub record Asks (call : Call) (text : List ℕ) (limits : Limits) : Type 0 where
  pub model : List ℕ
  pub blocks : Option (List ℕ)
  pub job : call.job ≡ Some (Solve model blocks limits)
  pub held : call.store.holds model ≡ Some text

-- the words name a model, which has this text
pub record AsksOf (call : Call) (text : List ℕ) : Type 0 where
  pub model : List ℕ
  pub named : model_in call.job ≡ Some model
  pub held : call.store.holds model ≡ Some text

-- the words ask to solve, with the blocks of a text
pub record AsksWith (call : Call) (text blocks_text : List ℕ) : Type 0 where
  pub model : List ℕ
  pub name : List ℕ
  pub limits : Limits
  pub job : call.job ≡ Some (Solve model (Some name) limits)
  pub held : call.store.holds model ≡ Some text
  pub blocks_held : call.store.holds name ≡ Some blocks_text

-- the words ask to check the point of a text in the program of a text
pub record AsksToCheck (call : Call) (text point_text : List ℕ) : Type 0 where
  pub model : List ℕ
  pub name : List ℕ
  pub job : call.job ≡ Some (Check model name)
  pub held : call.store.holds model ≡ Some text
  pub point_held : call.store.holds name ≡ Some point_text

-- the store failed, or want of memory is answered without figures
abbrev pub IsCutShort : Call → Type 0
IsCutShort call = GivesPlain call ReadFault ⊎ GivesPlain call NoMemory

-- blocks are named, and their text is refused: it was pulled whole, and the fault that is told is its first one as
-- blocks of this program
pub record RefusesBlocks (call : Call) (program : Program) : Type 0 where
  pub model : List ℕ
  pub name : List ℕ
  pub limits : Limits
  pub asked : call.job ≡ Some (Solve model (Some name) limits)
  pub fault : TextFault BlockKind
  pub given : GivesPlain call (Refused (Blocks fault))
  pub pulled : ArePulled (Some model) (Some name) call.store call.store_after
  pub first : IfSome (call.store.holds name)
      (λ text. HasLineFault (block_reading program) text fault.line (block_kind_number fault.kind))

-- where the words ask for the program of a text, true figures of the program are told; or the text of the blocks that
-- they name is refused; or the store failed, or want of memory is answered without figures
abbrev pub Headline : Call → Type 0
Headline call =
    (text : List ℕ) (limits : Limits) (program : Program) → Asks call text limits → HasProgram call text program
    → TellsTruth call program limits ⊎ (RefusesBlocks call program ⊎ IsCutShort call)

-- the verdict is that something is broken
abbrev pub IsBreach : Verdict → Type 0
IsBreach (verdicts.Feasible cost) = ⊥
IsBreach (verdicts.BreaksBound column) = ⊤
IsBreach (verdicts.BreaksWhole column) = ⊤
IsBreach (verdicts.BreaksRow number value) = ⊤
IsBreach (verdicts.Wide place) = ⊥

-- the point that was read breaks something
pub record BreaksSome (call : Call) : Type 0 where
  pub is_checked : IsChecked call
  pub breach : IsBreach (verdict_of is_checked.program is_checked.point)

-- a sum overflows at the point that was read
pub record PointOverflows (call : Call) : Type 0 where
  pub is_checked : IsChecked call
  pub place : Place
  pub verdict : verdict_of is_checked.program is_checked.point ≡ verdicts.Wide place

-- where the words ask to check the point of a text in the program of a text, the verdict is told, unless the store
-- failed or want of memory is answered; statuses 0, 1 and 11 come there only with the verdict, and it is the verdict's;
-- status 1 comes only where the point that was read breaks something
pub record CheckClause (call : Call) : Type 0 where
  pub always : (text point_text : List ℕ) (program : Program) (point : List ℚ) → AsksToCheck call text point_text
      → HasProgram call text program → HasResult (point_reading program) point_text point
      → TellsVerdict call program point ⊎ IsCutShort call
  pub exact : (model name : List ℕ) → call.job ≡ Some (Check model name)
      → call.status ≢ 3 → call.status ≢ 4 → call.status ≢ 5 → call.status ≢ 6
      → (c : IsChecked call) × (call.status ≡ check_status (checked c.program c.point))
  pub broken : call.status ≡ 1 → BreaksSome call

-- status 2 comes only where the words are not accepted, or want a plugin to be off that isn't there; where that is so,
-- usage is said or want of memory, and nothing is pulled
pub record UsageClause (call : Call) : Type 0 where
  pub only : call.status ≡ 2 → call.job ≡ None
  pub always : call.job ≡ None → GivesPlain call Usage ⊎ GivesPlain call NoMemory
  pub untouched : call.job ≡ None → call.store_after ≡ call.store

-- the text that is read behind the model's, up to a faulty one
abbrev pub behind_up_to : FaultyText → Job → Option (List ℕ)
behind_up_to (Model fault) asked = None
behind_up_to (Blocks fault) asked = second_of asked
behind_up_to (Point fault) asked = second_of asked

-- a fault is told, and the texts were pulled whole, in the order read, up to the faulty one and with it
pub record PullsToFault (call : Call) (asked : Job) : Type 0 where
  pub fault : FaultyText
  pub given : GivesPlain call (Refused fault)
  pub pulled : ArePulled (model_of asked) (behind_up_to fault asked) call.store call.store_after

-- status 3 comes only where the store's count of faults rose, or stands at its last value; with every other status but
-- 5 the count is as it was; with 0, 1, 10, 11 and 13 each text that the words name was pulled whole, and with 4 the
-- texts up to the faulty one
pub record ReadFaultClause (call : Call) : Type 0 where
  pub rose : call.status ≡ 3 → Rose call.store.faults call.store_after.faults
  pub sound : call.status ≢ 3 → call.status ≢ 5 → IsStoreSound call
  pub whole : (asked : Job) → call.job ≡ Some asked
      → call.status ≢ 3 → call.status ≢ 4 → call.status ≢ 5 → call.status ≢ 6
      → ArePulled (model_of asked) (second_of asked) call.store call.store_after
  pub up_to_fault : (asked : Job) → call.job ≡ Some asked → call.status ≡ 4 → PullsToFault call asked

-- the text of the model has a program, and that of the blocks its first fault at this line, of this kind
pub record HasBlocksFault (call : Call) (text blocks_text : List ℕ) (line kind : ℕ) : Type 0 where
  pub program : Program
  pub is_program : HasProgram call text program
  pub first : HasLineFault (block_reading program) blocks_text line kind

-- the text of the model has a program, and that of the point its first fault at this line, of this kind
pub record HasPointFault (call : Call) (text point_text : List ℕ) (line kind : ℕ) : Type 0 where
  pub program : Program
  pub is_program : HasProgram call text program
  pub first : HasLineFault (point_reading program) point_text line kind

-- the fault that is told is the first of its text, and the text before it has none
abbrev pub IsFirstFault : Call → FaultyText → Type 0
IsFirstFault call (Model fault) =
    (text : List ℕ) → AsksOf call text → HasFault call text fault.line (model_kind_number fault.kind)
IsFirstFault call (Blocks fault) =
    (text blocks_text : List ℕ) → AsksWith call text blocks_text
    → HasBlocksFault call text blocks_text fault.line (block_kind_number fault.kind)
IsFirstFault call (Point fault) =
    (text point_text : List ℕ) → AsksToCheck call text point_text
    → HasPointFault call text point_text fault.line (point_kind_number fault.kind)

-- a fault of this line and of this kind is told, and of the model as one of its kind of text
pub record TellsModelFault (call : Call) (line kind : ℕ) : Type 0 where
  pub fault : TextFault ModelKind
  pub is_line : fault.line ≡ line
  pub is_kind : model_kind_number fault.kind ≡ kind
  pub own : IsSomeAnd (model_in call.job) (λ model. is_lp_kind fault.kind ≡ is_lp_name model)
  pub given : GivesPlain call (Refused (Model fault))

pub record TellsBlockFault (call : Call) (line kind : ℕ) : Type 0 where
  pub fault : TextFault BlockKind
  pub is_line : fault.line ≡ line
  pub is_kind : block_kind_number fault.kind ≡ kind
  pub given : GivesPlain call (Refused (Blocks fault))

pub record TellsPointFault (call : Call) (line kind : ℕ) : Type 0 where
  pub fault : TextFault PointKind
  pub is_line : fault.line ≡ line
  pub is_kind : point_kind_number fault.kind ≡ kind
  pub given : GivesPlain call (Refused (Point fault))

-- status 4 comes only where a text is faulty, and its first fault is told, that of the first faulty text in the order
-- read; where a text is faulty, and the one before it isn't, that is said, or the store failed, or want of memory is
-- answered
pub record RefusedClause (call : Call) : Type 0 where
  pub only : call.status ≡ 4 → (fault : FaultyText) × GivesPlain call (Refused fault) × IsFirstFault call fault
  pub model : (text : List ℕ) (line kind : ℕ) → AsksOf call text → HasFault call text line kind
      → TellsModelFault call line kind ⊎ IsCutShort call
  pub blocks : (text blocks_text : List ℕ) (program : Program) (line kind : ℕ) → AsksWith call text blocks_text
      → HasProgram call text program → HasLineFault (block_reading program) blocks_text line kind
      → TellsBlockFault call line kind ⊎ IsCutShort call
  pub point : (text point_text : List ℕ) (program : Program) (line kind : ℕ) → AsksToCheck call text point_text
      → HasProgram call text program → HasLineFault (point_reading program) point_text line kind
      → TellsPointFault call line kind ⊎ IsCutShort call

-- status 5 comes only where the sink's count of faults rose, or stands at its last value; with every other status the
-- count is as it was
pub record WriteFaultClause (call : Call) : Type 0 where
  pub rose : call.status ≡ 5 → Rose call.sink.faults call.sink_after.faults
  pub sound : call.status ≢ 5 → IsSinkSound call

-- the figures that are told reach the gap that the words ask for: the cost less the bound is above 0 and at most that
abbrev pub FiguresReachGap : (call : Call) → IsAnswered call → Type 0
FiguresReachGap call answered = ShowsGap answered.program answered.limits.gap answered.answers.figures

-- status 10 comes only after a search of as many nodes as the words allow, which left an open node that matters, and
-- where the gap that they ask for isn't reached; the figures that are told say exactly so
pub record SpentLog (call : Call) : Type 0 where
  pub answered : IsAnswered call
  pub limit : answered.answers.figures.status ≡ NodeLimit
  pub log : Log
  pub added : call.logs_after ≡ call.logs ++ log ∷ []
  pub full : length (entries_of log) ≡ answered.limits.nodes
  pub spent :
      IsSpent answered.program answered.answers.start answered.limits.nodes (entries_of log)
      answered.answers.figures.held
  pub far : ¬ FiguresReachGap call answered

-- and it never comes where the words allow at least twice as many nodes as the program has leaves, less one: these are
-- the whole assignments of its box, times the ways to make its choices. Then a search that isn't cut short ends by what
-- is left, or by the gap where one is asked for
pub record NodeLimitClause (call : Call) : Type 0 where
  pub spent : call.status ≡ 10 → SpentLog call
  pub ample : (text : List ℕ) (limits : Limits) (program : Program) (n : ℕ) → Asks call text limits
      → HasProgram call text program → leaf_count program.integral (root program) ≡ Some n
      → max 1 (2 * n - 1) ≤ limits.nodes → call.status ≢ 10

-- a search has ended by the gap that the words ask for
pub record GapLog (call : Call) : Type 0 where
  pub answered : IsAnswered call
  pub gap : answered.answers.figures.status ≡ Gap
  pub near : FiguresReachGap call answered

-- status 13 comes only where a search has ended by the gap that the words ask for; and wherever the figures reach it,
-- unless the sink failed, or a ray or want of memory has cut the search short
pub record GapClause (call : Call) : Type 0 where
  pub only : call.status ≡ 13 → GapLog call
  pub always : (answered : IsAnswered call) → FiguresReachGap call answered → EndsItself answered.answers.figures.status
      → call.status ≢ 5 → call.status ≡ 13
  pub unasked : (text : List ℕ) (limits : Limits) → Asks call text limits → limits.gap ≡ None → call.status ≢ 13

-- a search has shown an overflow, and the gap that the words ask for isn't reached
pub record OverflowLog (call : Call) : Type 0 where
  pub answered : IsAnswered call
  pub leaf : Leaf
  pub place : Overflow
  pub shown : answered.answers.figures.status ≡ Wide leaf place
  pub overflows :
      ShowsOverflow answered.program answered.answers.start answered.answers.entries answered.answers.figures.held leaf
      place
  pub far : ¬ FiguresReachGap call answered

-- status 11 comes only where a search has shown an overflow, or where a sum overflows at the point that was read
abbrev pub OverflowClause : Call → Type 0
OverflowClause call = call.status ≡ 11 → OverflowLog call ⊎ PointOverflows call

-- status 6 comes without figures, before a program was read; or with figures that are as true as in any other answer
abbrev pub MemoryClause : Call → Type 0
MemoryClause call = call.status ≡ 6 → GivesPlain call NoMemory ⊎ IsAnswered call

-- true figures of the program were told to the sink by this text of theirs, and they are those of what a search of it
-- found: the point that it held, and as the bound the least of what it left
abbrev pub WorksBy : Call → Program → Limits → Telling → Type 0
WorksBy call program limits text_of =
    Works program limits text_of call.sink call.sink_after call.logs call.logs_after call.kit call.kit_after call.status

-- they were told as an answer to `solve`
abbrev pub TellsWork : Call → Program → Limits → Type 0
TellsWork call program limits = WorksBy call program limits (traced_text (names_of program))

-- where the words ask for the program of a text, the figures that are told are those of what a search found; and where
-- none are told, that is for what the headline says
abbrev pub WorkClause : Call → Type 0
WorkClause call =
    (text : List ℕ) (limits : Limits) (program : Program) → Asks call text limits → HasProgram call text program
    → TellsWork call program limits ⊎ (RefusesBlocks call program ⊎ IsCutShort call)

-- true figures of the program were told to the sink, with the lines of a trace, if they are asked for. Where the words
-- ask for a search without plugins nobody was called, the kit is as it was, and no line is told. Else the plugins that
-- they want to be off were set aside, uncalled; and where any were left, these served in the search, and all are done
-- with: or memory was refused before a node was taken, or presolve showed then that no point is feasible. Or want of
-- memory is the answer, and the kit is as it was
pub record TellsKit (call : Call) (program : Program) (limits : Limits) : Type 0 where
  pub truth : TellsTruth call program limits
  pub trace : Option Trace
  pub lines_are : truth.lines ≡ kept_lines trace
  pub served : IsKitOf limits truth.entries call.kit call.kit_after trace (truth.figures.status ≡ LacksMemory)

-- the words ask for a search: of the program of a text, or of one that is drawn
abbrev pub AsksForSearch : Option Job → Type 0
AsksForSearch None = ⊥
AsksForSearch (Some (Solve model blocks limits)) = ⊤
AsksForSearch (Some (Check model point)) = ⊥
AsksForSearch (Some (Generate seed columns rows)) = ⊤

-- where the words ask for the program of a text, that became of the kit; and where no figures are told, that is for
-- what the headline says. Where they ask for a search without plugins, or for none, the kit is as it was
pub record KitClause (call : Call) : Type 0 where
  pub served : (text : List ℕ) (limits : Limits) (program : Program) → Asks call text limits
      → HasProgram call text program → TellsKit call program limits ⊎ (RefusesBlocks call program ⊎ IsCutShort call)
  pub plain : (model : List ℕ) (blocks : Option (List ℕ)) (limits : Limits)
      → call.job ≡ Some (Solve model blocks limits) → limits.plain ≡ true → call.kit_after ≡ call.kit
  pub no_search : ¬ AsksForSearch call.job → call.kit_after ≡ call.kit

-- where the words ask for a program that is drawn, true figures of exactly that program are told, as an answer to
-- `self`: they are those of what a search found, with the usual limits, and that says what became of the kit, too; or
-- want of memory is answered without figures, before the program was there. Nothing is pulled, and no gap ends the
-- search
pub record SelfClause (call : Call) : Type 0 where
  pub told : (seed columns rows : ℕ) → call.job ≡ Some (Generate seed columns rows)
      → WorksBy call (generated seed columns rows) usual_limits (self_told (drawn_as seed columns rows))
      ⊎ GivesPlain call NoMemory
  pub untouched : (seed columns rows : ℕ) → call.job ≡ Some (Generate seed columns rows)
      → call.store_after ≡ call.store
  pub no_gap : (seed columns rows : ℕ) → call.job ≡ Some (Generate seed columns rows) → call.status ≢ 13

-- what holds of every call, part by part
pub record Runs (call : Call) : Type 0 where
  pub ran : Ran call
  pub statuses : IsStatus call.status
  pub headline : Headline call
  pub work : WorkClause call
  pub kit : KitClause call
  pub self : SelfClause call
  pub check : CheckClause call
  pub usage : UsageClause call
  pub read_fault : ReadFaultClause call
  pub refused : RefusedClause call
  pub write_fault : WriteFaultClause call
  pub node_limit : NodeLimitClause call
  pub gap : GapClause call
  pub overflow : OverflowClause call
  pub memory : MemoryClause call
