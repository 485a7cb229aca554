-- What is known of programs, blocks and points that were read, and of those that weren't.
use Rattle.std.specs.Prelude.{◌≡◌, ◌<◌, ◌≤◌, ℕ, List, length, Option, None, Some, IfSome, Result, Ok, Err, IsErr, MatchResult, refl}
use Rattle.std.specs.Result.{IsErrAnd}
use Rattle.std.proofs.Common.{sym, ap, ◌∙◌, subst, inl, inr, arith}
use Rattle.std.proofs.lemmas.Slice.Zip.{AllZip-long}
use Rattle.cip_rational.specs.Rational.{ℚ}
use Rattle.cip_problem.specs.Program.{Program}
use Rattle.cip_problem.specs.WellFormed.{columns}
use Rattle.cip_text_rules.specs.LineTexts.{HasResult, HasFault}
use Rattle.cip_text_rules.specs.BlockRules.{block_reading}
use Rattle.cip_text_rules.specs.PointRules.{point_reading}
use Rattle.cip_text_rules.specs.PointStatements.{IsGivenOnce, given_by, PointsAreOfLines}
use Rattle.cip_input.specs.BlockKindTexts.{kind_number as block_kind_number}
use Rattle.cip_input.specs.PointKindTexts.{kind_number as point_kind_number}
use Rattle.cip_input.specs.LimitedModels.{ProgramsAreLimited}
use Rattle.cip_input.specs.TextsRead.{ReadsText, RefusesText}
use Rattle.cip_input.specs.Models.{HasModel}
use Rattle.cip_input.specs.ModelsRead.{IsRead, Reads, ReadCause}
use Rattle.cip_input.specs.BlocksRead.{BlocksCause}
use Rattle.cip_input.specs.PointsRead.{ReadsPoint, PointCause}
use Rattle.cip_input.specs.declared.model_kinds.ModelKind.{ModelKind}
use Rattle.cip_input.specs.BlockKind.{BlockKind}
use Rattle.cip_input.specs.declared.kinds.PointKind.{PointKind}
use Rattle.cip_input.specs.declared.unread.Unread.{Unread}
use Rattle.cip_input.specs.declared.unread.Unread.TheVariants.{StoreFailed, Faulty, NoMemory}
use Rattle.cip_input.specs.TextFault.{TextFault}
use Rattle.cip_input.specs.declared.refusals.FaultyText.{FaultyText}
use Rattle.cip_input.specs.declared.refusals.FaultyText.TheVariants as text
use Rattle.cip_input.specs.declared.plain.Plain.TheVariants as plain
use Rattle.cip_io.specs.Store.{StoreTells}
use Rattle.cip_input.specs.Jobs.{Limits, Job, Solve, Check, Generate, AsksForSome}
use Rattle.cip_input.specs.Generated.{most_drawn}
use Rattle.cip_input.specs.declared.plain.Plain.{Plain}
use Rattle.cip_input.specs.Tasks.{IsPlain, model_of, model_in, TakesBlocks, IsSolve, IsCheck, TaskCause}

-- it is that of the text that the store tells
pub told : (name : List ℕ) (text : Option (List ℕ)) (program : Program) → IsRead name text program → IfSome text (λ bytes. HasModel name bytes program)
told name None program r = tt
told name (Some bytes) program r = subst (λ t. HasModel name t program) (sym r.told) r.described

pub value_told : {X : Type 0} (HasValue : List ℕ → X → Type 0) (text : Option (List ℕ)) (old new : StoreTells) (value : X) → ReadsText HasValue text old new value → IfSome text (λ bytes. HasValue bytes value)
value_told HasValue None old new value r = tt
value_told HasValue (Some bytes) old new value r = subst (λ t. HasValue t value) (sym r.told) r.described

-- the point of a text has a value for each column
pub long : (name : List ℕ) (text : Option (List ℕ)) (program : Program) (point_text : Option (List ℕ)) (old new : StoreTells) (point : List ℚ) → ProgramsAreLimited → PointsAreOfLines → IsRead name text program → ReadsText (HasResult (point_reading program)) point_text old new point → length point ≡ columns program
long name text program point_text old new point limited lines r p =
    AllZip-long (IsGivenOnce (given_by program p.bytes)) program.column_names point (lines program p.bytes point p.described).values
    ∙ (limited name r.bytes program r.described).well_formed.column_names

pub some_job : {asked : Job} {job : Option Job} → job ≡ Some asked → job ≡ None → ⊥
some_job h e = cc

pub no_name : {name : List ℕ} → None ≡ Some name → ⊥
no_name e = cc

-- nor does a job that names a model name none
some_model : {asked : Job} {model : List ℕ} {job : Option Job} → job ≡ Some asked → model_of asked ≡ Some model → model_in job ≡ None → ⊥
some_model h e n = no_name (sym n ∙ (ap model_in h ∙ e))

-- a job to solve asks for a node at least
pub some_asked : (asked : Job) (model : List ℕ) (blocks : Option (List ℕ)) (limits : Limits) → AsksForSome asked → asked ≡ Solve model blocks limits → 0 < limits.nodes
some_asked asked model blocks limits h e = let range : AsksForSome (Solve model blocks limits) = subst AsksForSome e h in omega (arith, range.0)

-- the answer that is given where nothing was read of a text
abbrev plain_of : {K : Type 0} → (TextFault K → FaultyText) → Unread K → Plain
plain_of faulty StoreFailed = plain.ReadFault
plain_of faulty (Faulty fault) = plain.Refused (faulty fault)
plain_of faulty NoMemory = plain.NoMemory

-- why there is no task where the text of the model gave no program
pub unread_cause : (job : Option Job) (asked : Job) (model : List ℕ) (old new : StoreTells) (cause : Unread ModelKind) → job ≡ Some asked → model_of asked ≡ Some model → ReadCause model (old.holds model) old new cause → TaskCause job old new (plain_of text.Model cause)
unread_cause job asked model old new StoreFailed e n h = record { asked = asked; is_asked = e; model = model; named = n; fails = inl h }
unread_cause job asked model old new (Faulty fault) e n h = record { asked = asked; is_asked = e; model = model; named = n; refuses = h }
unread_cause job asked model old new NoMemory e n h = record { sound = h; untouched = λ none. absurd (some_model e n none) }

-- why there is none where the text of the blocks gave none
pub blocks_cause : (job : Option Job) (model name : List ℕ) (limits : Limits) (old between new : StoreTells) (program : Program) (cause : Unread BlockKind) → job ≡ Some (Solve model (Some name) limits) → Reads model (old.holds model) old between program → between.holds ≡ old.holds → BlocksCause program (between.holds name) between new cause → TaskCause job old new (plain_of text.Blocks cause)
blocks_cause job model name limits old between new program StoreFailed e r same h = record {
  asked = Solve model (Some name) limits;
  is_asked = e;
  model = model;
  named = refl;
  fails = inr (record { name = name; named = refl; program = program; between = between; reads = r; rose = h });
}
blocks_cause job model name limits old between new program (Faulty fault) e r same h = record {
  model = model;
  name = name;
  limits = limits;
  is_asked = e;
  program = program;
  between = between;
  reads = r;
  refuses = subst (λ holds. RefusesText (HasFault (block_reading program)) (holds name) between new fault.line (block_kind_number fault.kind)) same h;
}
blocks_cause job model name limits old between new program NoMemory e r same h = record { sound = h ∙ r.sound; untouched = λ none. absurd (some_model e refl none) }

-- why there is none where the text of the point gave none
pub point_cause : (job : Option Job) (model name : List ℕ) (old between new : StoreTells) (program : Program) (cause : Unread PointKind) → job ≡ Some (Check model name) → Reads model (old.holds model) old between program → between.holds ≡ old.holds → PointCause program (between.holds name) between new cause → TaskCause job old new (plain_of text.Point cause)
point_cause job model name old between new program StoreFailed e r same h = record {
  asked = Check model name;
  is_asked = e;
  model = model;
  named = refl;
  fails = inr (record { name = name; named = refl; program = program; between = between; reads = r; rose = h });
}
point_cause job model name old between new program (Faulty fault) e r same h = record {
  model = model;
  name = name;
  is_asked = e;
  program = program;
  between = between;
  reads = r;
  refuses = subst (λ holds. RefusesText (HasFault (point_reading program)) (holds name) between new fault.line (point_kind_number fault.kind)) same h;
}
point_cause job model name old between new program NoMemory e r same h = record { sound = h ∙ r.sound; untouched = λ none. absurd (some_model e refl none) }

-- a program to solve was read, with its blocks
pub is_solve : (job : Option Job) (model : List ℕ) (blocks : Option (List ℕ)) (limits : Limits) (old between new : StoreTells) (program : Program) → ProgramsAreLimited → 0 < limits.nodes → job ≡ Some (Solve model blocks limits) → Reads model (old.holds model) old between program → TakesBlocks program blocks old between new → IsSolve job old new program limits
is_solve job model blocks limits old between new program limited some asked r b = record {
  model = model;
  blocks = blocks;
  asked = asked;
  between = between;
  reads = r;
  takes_blocks = b;
  limited = limited model r.is_read.bytes program r.is_read.described;
  some = some;
}

-- a point to check was read, behind its program
pub is_check : (job : Option Job) (model name : List ℕ) (old between new : StoreTells) (program : Program) (point : List ℚ) → ProgramsAreLimited → PointsAreOfLines → job ≡ Some (Check model name) → Reads model (old.holds model) old between program → between.holds ≡ old.holds → ReadsPoint program (between.holds name) between new point → IsCheck job old new program point
is_check job model name old between new program point limited lines asked r same p = record {
  model = model;
  name = name;
  asked = asked;
  between = between;
  reads = r;
  reads_point = subst (λ holds. ReadsPoint program (holds name) between new point) same p;
  long = long model _ program _ between new point limited lines r.is_read p;
}

-- the answer that is given for a cause
plain_for : {K : Type 0} (faulty : TextFault K → FaultyText) (cause : Unread K) (given : Plain) → IsPlain (λ fault said. said ≡ faulty fault) cause given → given ≡ plain_of faulty cause
plain_for faulty StoreFailed given p = p
plain_for faulty (Faulty fault) plain.Usage p = absurd p
plain_for faulty (Faulty fault) plain.ReadFault p = absurd p
plain_for faulty (Faulty fault) (plain.Refused text) p = ap plain.Refused p
plain_for faulty (Faulty fault) plain.NoMemory p = absurd p
plain_for faulty NoMemory given p = p

pub cause_told : {K : Type 0} (faulty : TextFault K → FaultyText) (Cause : Plain → Type 0) (cause : Unread K) (given : Plain) → Cause (plain_of faulty cause) → IsPlain (λ fault said. said ≡ faulty fault) cause given → Cause given
cause_told faulty Cause cause given h p = subst Cause (sym (plain_for faulty cause given p)) h

-- nothing was read of a text
pub not_read : {X K : Type 0} (faulty : TextFault K → FaultyText) (Done : X → Type 0) (Cause : Plain → Type 0) (cause : Unread K) (result : Result X Plain) → Cause (plain_of faulty cause) → IsErr result × IsErrAnd result (IsPlain (λ fault said. said ≡ faulty fault) cause) → MatchResult result Done Cause
not_read faulty Done Cause cause (Ok x) h e = let no : ⊥ = let failed = e.0 in cc in absurd no
not_read faulty Done Cause cause (Err given) h e = cause_told faulty Cause cause given h e.1

-- a job to solve a program that is drawn asks for few columns and rows
pub few_columns : (asked : Job) (seed columns rows : ℕ) → AsksForSome asked → asked ≡ Generate seed columns rows → columns ≤ most_drawn
few_columns asked seed columns rows h e = (subst AsksForSome e h).1.0

pub few_rows : (asked : Job) (seed columns rows : ℕ) → AsksForSome asked → asked ≡ Generate seed columns rows → rows ≤ most_drawn
few_rows asked seed columns rows h e = (subst AsksForSome e h).1.1
