-- The ways of a call, from the task that was read and what was done then.
use Rattle.std.specs.Prelude.{◌≡◌, ℕ, List, Option, None, Some, IfSome, map}
use Rattle.cip_rational.specs.Rational.{ℚ}
use Rattle.cip_problem.specs.Program.{Program}
use Rattle.cip_io.specs.Store.{StoreTells}
use Rattle.cip_text_rules.specs.LineTexts.{HasResult}
use Rattle.cip_text_rules.specs.BlockRules.{block_reading}
use Rattle.cip_text_rules.specs.PointRules.{point_reading}
use Rattle.cip_problem.specs.BlockParts.{Blocks as Parts}
use Rattle.cip_main.specs.TextsRead.{ReadsText}
use Rattle.cip_input.specs.declared.plain.Plain.{Plain}
use Rattle.cip_plugin.specs.Who.{Who}
use Rattle.cip_input.specs.Jobs.{Limits, Job, usual_limits, job_for}
use Rattle.cip_input.specs.Generated.{entries_of}
use Rattle.cip_search.specs.SelfTexts.{Drawn as Told}
use Rattle.cip_search.specs.TraceTexts.{traced_text}
use Rattle.cip_search.specs.Figures.{names_of}
use Rattle.cip_main.specs.Answering.{self_told}
use Rattle.cip_main.specs.Saying.{Says}
use Rattle.cip_input.specs.Plain.{plain_text, plain_status}
use Rattle.cip_input.specs.Tasks.{labels_of, TakesBlocks, IsSolve, IsCheck, IsDrawn, TaskCause}
use Rattle.cip_main.specs.Running.{Call, BlocksAreRead, IsPulledBehind, WorksBy, TellsWork, TellsVerdict, gives_plain, gives_figures, gives_verdict, Runs}
use Rattle.cip_input.proofs.TasksRead.{told, value_told}
use Rattle.cip_main.proofs.Clauses.{runs}
use Rattle.std.proofs.Common.{◌∙◌, ap, subst, inl, inr, refl}

-- the job of words for the plugins of a kit, which are lent
pub asked_of : {P : Type 0} (who : P → Who) (lent plugins : List P) (words : Option Job) → lent ≡ plugins → job_for (labels_of (map who lent)) words ≡ job_for (labels_of (map who plugins)) words
asked_of who lent plugins words e = ap (λ ps. job_for (labels_of (map who ps)) words) e

-- blocks that were read are those of their text
blocks_told : (program : Program) (text : Option (List ℕ)) (old new : StoreTells) (parts : Parts) → ReadsText (HasResult (block_reading program)) text old new parts → IfSome text (λ bytes. (parts : Parts) × HasResult (block_reading program) bytes parts)
blocks_told program None old new parts r = tt
blocks_told program (Some bytes) old new parts r = (parts, value_told (HasResult (block_reading program)) (Some bytes) old new parts r)

are_read : (program : Program) (blocks : Option (List ℕ)) (old between new : StoreTells) → TakesBlocks program blocks old between new → BlocksAreRead program blocks old
are_read program None old between new t = tt
are_read program (Some name) old between new t = blocks_told program (old.holds name) between new t.0 t.1

behind : (program : Program) (blocks : Option (List ℕ)) (old between new : StoreTells) → TakesBlocks program blocks old between new → IsPulledBehind blocks old between new
behind program None old between new t = t
behind program (Some name) old between new t = t.1.pulled

none_failed : (program : Program) (blocks : Option (List ℕ)) (old between new : StoreTells) → TakesBlocks program blocks old between new → new.faults ≡ between.faults
none_failed program None old between new t = ap (λ (store : StoreTells). store.faults) t
none_failed program (Some name) old between new t = t.1.sound

-- a program was read and solved
pub answered : (call : Call) (job : Option Job) (program : Program) (limits : Limits) → job ≡ call.job → IsSolve job call.store call.store_after program limits → TellsWork call program limits → Runs call
answered call job program limits e given w = let s = subst (λ j. IsSolve j call.store call.store_after program limits) e given in runs call (gives_figures (record {
  program = program;
  limits = limits;
  text_of = traced_text (names_of program);
  source = inl (record {
    model = s.model;
    blocks = s.blocks;
    asked = s.asked;
    is_read = told _ _ program s.reads.is_read;
    are_read = are_read program s.blocks call.store s.between call.store_after s.takes_blocks;
    pulled = record { between = s.between; model_pulled = s.reads.pulled; second_pulled = behind program s.blocks call.store s.between call.store_after s.takes_blocks };
    told = refl;
  });
  answers = w.answers;
  sound = none_failed program s.blocks call.store s.between call.store_after s.takes_blocks ∙ s.reads.sound;
})) w

-- a program was drawn and solved
abbrev drawn_with : (seed columns rows entries : ℕ) → Told
drawn_with seed columns rows entries = record { seed = seed; columns = columns; rows = rows; entries = entries }

pub drawn_answered : (call : Call) (job : Option Job) (program : Program) (seed columns rows entries : ℕ) → job ≡ call.job → IsDrawn job call.store call.store_after program seed columns rows entries → WorksBy call program usual_limits (self_told (record { seed = seed; columns = columns; rows = rows; entries = entries })) → Runs call
drawn_answered call job program seed columns rows entries e given w = let d = subst (λ j. IsDrawn j call.store call.store_after program seed columns rows entries) e given in runs call (gives_figures (record {
  program = program;
  limits = usual_limits;
  text_of = self_told (record { seed = seed; columns = columns; rows = rows; entries = entries });
  source = inr (record {
    seed = seed;
    columns = columns;
    rows = rows;
    asked = d.asked;
    is_drawn = d.is_drawn;
    usual = refl;
    told = ap (λ n. self_told (drawn_with seed columns rows n)) (d.counted ∙ ap entries_of d.is_drawn);
    untouched = d.untouched;
  });
  answers = w.answers;
  sound = ap (λ (store : StoreTells). store.faults) d.untouched;
})) w

-- a point was read and checked
pub verdict_told : (call : Call) (job : Option Job) (program : Program) (point shown : List ℚ) → job ≡ call.job → IsCheck job call.store call.store_after program point → shown ≡ point → TellsVerdict call program shown → Runs call
verdict_told call job program point shown same given e t = let k = subst (λ j. IsCheck j call.store call.store_after program point) same given in runs call (gives_verdict (record {
  model = k.model;
  name = k.name;
  asked = k.asked;
  program = program;
  is_read = told _ _ program k.reads.is_read;
  point = point;
  is_point = value_told (HasResult (point_reading program)) (call.store.holds k.name) k.between call.store_after point k.reads_point;
  verdict = subst (TellsVerdict call program) e t;
  pulled = record { between = k.between; model_pulled = k.reads.pulled; second_pulled = k.reads_point.pulled };
  sound = k.reads_point.sound ∙ k.reads.sound;
})) tt

-- there was no task
pub plain_told : (call : Call) (job : Option Job) (answer : Plain) → job ≡ call.job → TaskCause job call.store call.store_after answer → Says call.sink call.sink_after (plain_text answer) (plain_status answer) call.status → call.logs_after ≡ call.logs → call.kit_after ≡ call.kit → Runs call
plain_told call job answer e given t l k = runs call (gives_plain answer (record { cause = subst (λ j. TaskCause j call.store call.store_after answer) e given; tells = t; no_search = l; same_kit = k })) tt
