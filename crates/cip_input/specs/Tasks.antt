-- What the words and the texts of a job come to: a program to solve within limits, a point to check, a program that is
-- drawn, or an answer without figures. A job that names a model reads its text first, and then a second text, if it
-- names one.
use Rattle.std.specs.Prelude.{◌≡◌, ◌⊎◌, ◌<◌, ℕ, List, Option, None, Some, length, map}
use Rattle.cip_rational.specs.Rational.{ℚ}
use Rattle.cip_io.specs.Faults.{Rose}
use Rattle.cip_io.specs.Store.{StoreTells}
use Rattle.cip_problem.specs.Program.{Program}
use Rattle.cip_problem.specs.WellFormed.{columns}
use Rattle.cip_text_rules.specs.LineTexts.{HasFault}
use Rattle.cip_problem.specs.BlockParts.{Blocks as Parts}
use Rattle.cip_text_rules.specs.BlockRules.{block_reading}
use Rattle.cip_text_rules.specs.PointRules.{point_reading}
use Rattle.cip_input.specs.BlockKindTexts.{kind_number as block_kind_number}
use Rattle.cip_input.specs.PointKindTexts.{kind_number as point_kind_number}
use Rattle.cip_input.specs.Generated.{generated, entries_of}
use Rattle.cip_plugin.specs.Who.{Who}
use Rattle.cip_input.specs.Jobs.{Limits, Job, Solve, Check, Generate}
use Rattle.cip_input.specs.WordsRead.{limits_of}
use Rattle.cip_input.specs.declared.words.WordsFault.{WordsFault}
use Rattle.cip_input.specs.declared.words.WordsFault.TheVariants as words
use Rattle.cip_input.specs.LimitedModels.{IsLimited}
use Rattle.cip_input.specs.TextsRead.{RefusesText}
use Rattle.cip_input.specs.ModelsRead.{Reads, Refuses}
use Rattle.cip_input.specs.BlocksRead.{ReadsBlocks}
use Rattle.cip_input.specs.PointsRead.{ReadsPoint}
use Rattle.cip_input.specs.TextFault.{TextFault}
use Rattle.cip_input.specs.declared.model_kinds.ModelKind.{ModelKind}
use Rattle.cip_input.specs.declared.unread.Unread.{Unread}
use Rattle.cip_input.specs.declared.unread.Unread.TheVariants as unread
use Rattle.cip_input.specs.declared.refusals.FaultyText.{FaultyText}
use Rattle.cip_input.specs.declared.refusals.FaultyText.TheVariants.{Model, Blocks, Point}
use Rattle.cip_input.specs.declared.plain.Plain.{Plain}
use Rattle.cip_input.specs.declared.plain.Plain.TheVariants.{Usage, ReadFault, Refused, NoMemory}
use Rattle.cip_input.specs.declared.tasks.Task.{Task}
use Rattle.cip_input.specs.declared.tasks.Task.TheVariants as task

-- the names of plugins
abbrev pub labels_of : List Who → List (List ℕ)
labels_of plugins = map (λ who. who.label) plugins

-- the answer that is given where nothing was read of a text; `Gives` says which text the fault is told of
abbrev pub IsPlain : {K : Type 0} → (Gives : TextFault K → FaultyText → Type 0) → Unread K → Plain → Type 0
IsPlain Gives unread.StoreFailed answer = answer ≡ ReadFault
IsPlain Gives (unread.Faulty fault) (Refused text) = Gives fault text
IsPlain Gives (unread.Faulty fault) other = ⊥
IsPlain Gives unread.NoMemory answer = answer ≡ NoMemory

-- the answer that is given where words give no job
abbrev pub plain_of_words : WordsFault → Plain
plain_of_words words.Refused = Usage
plain_of_words words.NoMemory = NoMemory

-- the name of the text of the model of a job, if it names one
abbrev pub model_of : Job → Option (List ℕ)
model_of (Solve model blocks limits) = Some model
model_of (Check model point) = Some model
model_of (Generate seed columns rows) = None

-- the name of the text of the model that words name, if they are accepted and name one
abbrev pub model_in : Option Job → Option (List ℕ)
model_in None = None
model_in (Some asked) = model_of asked

-- the name of the text that is read behind the model's, if there is one
abbrev pub second_of : Job → Option (List ℕ)
second_of (Solve model blocks limits) = blocks
second_of (Check model point) = Some point
second_of (Generate seed columns rows) = None

-- ---- `old` and `new` are the store before and after the call, and `between` between the two texts

-- the text of blocks, if one is named, was read, and it has blocks of the program
abbrev pub TakesBlocks : Program → Option (List ℕ) → (old between new : StoreTells) → Type 0
TakesBlocks program None old between new = new ≡ between
TakesBlocks program (Some name) old between new =
    (parts : Parts) × ReadsBlocks program (old.holds name) between new parts

-- the words ask to solve the program of a text, which was read, within these limits
pub record IsSolve (job : Option Job) (old new : StoreTells) (program : Program) (limits : Limits) : Type 0 where
  pub model : List ℕ
  pub blocks : Option (List ℕ)
  pub asked : job ≡ Some (Solve model blocks limits)
  pub between : StoreTells
  pub reads : Reads model (old.holds model) old between program
  pub takes_blocks : TakesBlocks program blocks old between new
  pub limited : IsLimited program
  pub some : 0 < limits.nodes

-- the words ask to check the point of a text in the program of a text, and both were read
pub record IsCheck (job : Option Job) (old new : StoreTells) (program : Program) (point : List ℚ) : Type 0 where
  pub model : List ℕ
  pub name : List ℕ
  pub asked : job ≡ Some (Check model name)
  pub between : StoreTells
  pub reads : Reads model (old.holds model) old between program
  pub reads_point : ReadsPoint program (old.holds name) between new point
  pub long : length point ≡ columns program

-- the words ask to solve the program that is drawn from a seed; it is that one, so many coefficients of its rows aren't
-- 0, and nothing was pulled
pub record IsDrawn (job : Option Job) (old new : StoreTells) (program : Program) (seed columns rows entries : ℕ)
    : Type 0 where
  pub asked : job ≡ Some (Generate seed columns rows)
  pub is_drawn : program ≡ generated seed columns rows
  pub counted : entries ≡ entries_of program
  pub untouched : new ≡ old
  pub limited : IsLimited program

-- what is to be done
abbrev pub IsTask : Option Job → (old new : StoreTells) → Task → Type 0
IsTask job old new (task.Solve program limits) = IsSolve job old new program (limits_of limits)
IsTask job old new (task.Check program point) = IsCheck job old new program point.items
IsTask job old new (task.Generate program seed columns rows entries) =
    IsDrawn job old new program seed columns rows entries

-- behind the text of the model of this name, which was read, the store failed at the second text
pub record FailsBehind (asked : Job) (model : List ℕ) (old new : StoreTells) : Type 0 where
  pub name : List ℕ
  pub named : second_of asked ≡ Some name
  pub program : Program
  pub between : StoreTells
  pub reads : Reads model (old.holds model) old between program
  pub rose : Rose between.faults new.faults

-- the words are accepted and name a model, and the store failed: at the text of the model, or behind it
pub record IsUnreadable (job : Option Job) (old new : StoreTells) : Type 0 where
  pub asked : Job
  pub is_asked : job ≡ Some asked
  pub model : List ℕ
  pub named : model_of asked ≡ Some model
  pub fails : Rose old.faults new.faults ⊎ FailsBehind asked model old new

-- this is the first fault of the text of the model
pub record HasFaultyModel (job : Option Job) (old new : StoreTells) (fault : TextFault ModelKind) : Type 0 where
  pub asked : Job
  pub is_asked : job ≡ Some asked
  pub model : List ℕ
  pub named : model_of asked ≡ Some model
  pub refuses : Refuses model (old.holds model) old new fault

-- the text of the model was read, and that of the blocks has its first fault at this line, of this kind
pub record HasFaultyBlocks (job : Option Job) (old new : StoreTells) (line kind : ℕ) : Type 0 where
  pub model : List ℕ
  pub name : List ℕ
  pub limits : Limits
  pub is_asked : job ≡ Some (Solve model (Some name) limits)
  pub program : Program
  pub between : StoreTells
  pub reads : Reads model (old.holds model) old between program
  pub refuses : RefusesText (HasFault (block_reading program)) (old.holds name) between new line kind

-- the text of the model was read, and that of the point has its first fault at this line, of this kind
pub record HasFaultyPoint (job : Option Job) (old new : StoreTells) (line kind : ℕ) : Type 0 where
  pub model : List ℕ
  pub name : List ℕ
  pub is_asked : job ≡ Some (Check model name)
  pub program : Program
  pub between : StoreTells
  pub reads : Reads model (old.holds model) old between program
  pub refuses : RefusesText (HasFault (point_reading program)) (old.holds name) between new line kind

-- want of memory: no call of the store has failed, and for words that are not accepted or name no model none was made
pub record LacksMemory (job : Option Job) (old new : StoreTells) : Type 0 where
  pub sound : new.faults ≡ old.faults
  pub untouched : model_in job ≡ None → new ≡ old

-- why there is no task
abbrev pub TaskCause : Option Job → (old new : StoreTells) → Plain → Type 0
TaskCause job old new Usage = (job ≡ None) × (new ≡ old)
TaskCause job old new ReadFault = IsUnreadable job old new
TaskCause job old new (Refused (Model fault)) = HasFaultyModel job old new fault
TaskCause job old new (Refused (Blocks fault)) = HasFaultyBlocks job old new fault.line (block_kind_number fault.kind)
TaskCause job old new (Refused (Point fault)) = HasFaultyPoint job old new fault.line (point_kind_number fault.kind)
TaskCause job old new NoMemory = LacksMemory job old new
