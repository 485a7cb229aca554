-- The clauses of `run`, each from what the call does.
use Rattle.std.specs.Prelude.{◌≡◌, ◌≢◌, ◌⊎◌, ⊤, refl, ℕ, Bool, true, false, List, Option, None, Some, IfSome, IsSomeAnd, if◌then◌else◌, length, ◌*◌, ◌-◌, ◌≤◌, ◌<◌, max}
use Rattle.std.proofs.Common.{sym, ap, ◌∙◌, subst, inl, inr, arith}
use Rattle.cip_io.specs.Faults.{Rose}
use Rattle.cip_io.specs.Store.{StoreTells}
use Rattle.cip_problem.specs.Program.{Program}
use Rattle.cip_problem.specs.Log.{root, leaf_count}
use Rattle.cip_text_rules.specs.MpsOutcome.{mps_reading}
use Rattle.cip_text_rules.specs.LpOutcome.{lp_reading, told_kind}
use Rattle.cip_rational.specs.Rational.{ℚ}
use Rattle.cip_text_rules.specs.LineTexts.{Reading, Outcome, HasResult, HasFault as HasLineFault}
use Rattle.cip_text_rules.specs.LineTexts as texts
use Rattle.cip_text_rules.specs.BlockRules.{block_reading}
use Rattle.cip_text_rules.specs.PointRules.{point_reading}
use Rattle.cip_text_rules.proofs.LineOutcomes.{one_result, one_fault}
use Rattle.cip_main.specs.Models.{is_lp_name, HasProgramAs, HasFaultAs, HasModel, HasModelFault, is_lp_kind, model_kind_number}
use Rattle.cip_main.specs.ModelKind.{ModelKind}
use Rattle.cip_main.specs.TextFault.{TextFault}
use Rattle.cip_main.specs.BlockKindTexts.{kind_number as block_kind_number}
use Rattle.cip_main.specs.BlockKind.{BlockKind}
use Rattle.cip_main.specs.PointKindTexts.{kind_number as point_kind_number}
use Rattle.cip_main.specs.PointKind.{PointKind}
use Rattle.cip_input.specs.Jobs.{Limits, Job, Solve, Check, Generate, usual_limits}
use Rattle.cip_input.specs.Generated.{generated}
use Rattle.cip_search.specs.Checks.{check_status}
use Rattle.cip_model.specs.Verdicts.{verdict_of}
use Rattle.cip_input.specs.declared.refusals.FaultyText.{FaultyText}
use Rattle.cip_input.specs.declared.refusals.FaultyText.TheVariants.{Model, Blocks, Point}
use Rattle.cip_search.specs.Figures.{NodeLimit, Gap, Wide, NoMemory as LacksMemory, exit_status}
use Rattle.cip_search.specs.SearchEnds.{ReachesGap}
use Rattle.cip_search.specs.Headline.{IsSpent, EndsWith, EndsItself}
use Rattle.cip_search.proofs.Ends.{budgets_suffice}
use Rattle.cip_input.specs.declared.plain.Plain.{Plain}
use Rattle.cip_input.specs.declared.plain.Plain.TheVariants.{Usage, ReadFault, Refused, NoMemory}
use Rattle.cip_main.specs.Answering.{self_told, IsLogged}
use Rattle.cip_main.specs.Checking.{checked}
use Rattle.cip_input.specs.Plain.{plain_status}
use Rattle.cip_events.specs.declared.traces.Trace.{Trace}
use Rattle.cip_problem.specs.Log.{Entry}
use Rattle.cip_main.specs.Kits.{Stock, less_off}
use Rattle.cip_main.specs.KitsServed.{is_alone, IsKitAfter}
use Rattle.cip_main.specs.Running.{Call, HasProgram, HasFault, IsStoreSound, IsSinkSound, GivesPlain, IsOfText, IsOfSeed, drawn_as, IsAnswered, IsChecked, TellsVerdict, ArePulled, BlocksAreRead, Ran, gives_plain, gives_figures, gives_verdict, IsStatus, write_fault, TellsBy, TellsTruth, Asks, AsksOf, AsksWith, AsksToCheck, RefusesBlocks, IsCutShort, Headline, BreaksSome, CheckClause, HasBlocksFault, HasPointFault, IsFirstFault, TellsModelFault, TellsBlockFault, TellsPointFault, UsageClause, behind_up_to, PullsToFault, ReadFaultClause, RefusedClause, WriteFaultClause, SpentLog, FiguresReachGap, GapLog, OverflowClause, MemoryClause, WorksBy, TellsWork, WorkClause, TellsKit, AsksForSearch, KitClause, Runs}
use Rattle.cip_main.specs.Saying.{Says}
use Rattle.cip_main.specs.Work.{IsKitOf}
use Rattle.cip_input.specs.Tasks.{TaskCause, model_of, model_in, second_of, FailsBehind, HasFaultyModel, HasFaultyBlocks, HasFaultyPoint}
use Rattle.cip_input.proofs.TasksRead.{told, some_job, no_name}
use Rattle.cip_main.proofs.Statuses.{says_usage, says_read_fault, says_refused, says_no_memory, plain_below_five, plain_not_one, plain_not_ten, plain_not_eleven, plain_not_thirteen, plain_is, is_breach, is_overflow, figures_not_one, figures_not_two, figures_not_three, figures_not_four, figures_not_five, is_spent, is_near, gap_by_word, is_wide, exit_is, verdict_not_two, verdict_not_three, verdict_not_four, verdict_not_five, verdict_not_six, verdict_not_ten, verdict_not_thirteen, verdict_is}

-- ---- the status of a call

-- the status is this one, and no call of the sink has failed; or it is 5 after a fault of the sink
record StatusIs (call : Call) (status : ℕ) : Type 0 where
  either : ((call.status ≡ status) × IsSinkSound call) ⊎ ((call.status ≡ 5) × Rose call.sink.faults call.sink_after.faults)

said : (call : Call) (text : List ℕ) (status : ℕ) → Says call.sink call.sink_after text status call.status → StatusIs call status
said call text status (inl h) = record { either = inl (h.exit, h.sound) }
said call text status (inr h) = record { either = inr (h.exit, h.cause) }

said_plain : (call : Call) (answer : Plain) → GivesPlain call answer → StatusIs call (plain_status answer)
said_plain call answer g = said call _ (plain_status answer) g.tells

said_figures : (call : Call) (a : IsAnswered call) → StatusIs call (exit_status a.answers.figures.status)
said_figures call a = said call _ (exit_status a.answers.figures.status) a.answers.told

-- a status that is not 5 is the answer's own
own_answer : (call : Call) (status n : ℕ) → StatusIs call status → call.status ≡ n → n ≢ 5 → status ≡ n
own_answer call status n s e not_5 = elim s.either [ inl h ↦ sym h.0 ∙ e | inr h ↦ absurd (not_5 (sym e ∙ h.0)) ]

said_verdict : (call : Call) (c : IsChecked call) → StatusIs call (check_status (checked c.program c.point))
said_verdict call c = said call _ (check_status (checked c.program c.point)) c.verdict.tells

-- an answer's own status, unless 5
not_own : (call : Call) (status : ℕ) → StatusIs call status → call.status ≢ status → call.status ≢ 5 → ⊥
not_own call status s n not_5 = elim s.either [ inl h ↦ n h.0 | inr h ↦ not_5 h.0 ]

status_of : (call : Call) (status : ℕ) → IsStatus status → StatusIs call status → IsStatus call.status
status_of call status i s = elim s.either [ inl h ↦ subst IsStatus (sym h.0) i | inr h ↦ subst IsStatus (sym h.0) write_fault ]

statuses : (call : Call) → Ran call → IsStatus call.status
statuses call (gives_plain answer g) = status_of call _ (plain_is answer) (said_plain call answer g)
statuses call (gives_figures a) = status_of call _ (exit_is a.answers.figures.status) (said_figures call a)
statuses call (gives_verdict c) = status_of call _ (verdict_is (checked c.program c.point)) (said_verdict call c)

one_five : ◌≢◌ {A = ℕ} 1 5
one_five e = absurd (omega (arith, e))

two_five : ◌≢◌ {A = ℕ} 2 5
two_five e = absurd (omega (arith, e))

three_five : ◌≢◌ {A = ℕ} 3 5
three_five e = absurd (omega (arith, e))

four_five : ◌≢◌ {A = ℕ} 4 5
four_five e = absurd (omega (arith, e))

six_five : ◌≢◌ {A = ℕ} 6 5
six_five e = absurd (omega (arith, e))

ten_five : ◌≢◌ {A = ℕ} 10 5
ten_five e = absurd (omega (arith, e))

eleven_five : ◌≢◌ {A = ℕ} 11 5
eleven_five e = absurd (omega (arith, e))

thirteen_five : ◌≢◌ {A = ℕ} 13 5
thirteen_five e = absurd (omega (arith, e))

-- ---- jobs and texts

one_job : {asked other : Job} {job : Option Job} → job ≡ Some asked → job ≡ Some other → asked ≡ other
one_job h e = cc

-- a job to solve is no job to check
solve_check : {model other name : List ℕ} {blocks : Option (List ℕ)} {limits : Limits} {job : Option Job} → job ≡ Some (Solve model blocks limits) → job ≡ Some (Check other name) → ⊥
solve_check h e = cc

-- neither is a job to solve a program that is drawn
solve_drawn : {model : List ℕ} {blocks : Option (List ℕ)} {limits : Limits} {seed columns rows : ℕ} {job : Option Job} → job ≡ Some (Solve model blocks limits) → job ≡ Some (Generate seed columns rows) → ⊥
solve_drawn h e = cc

check_drawn : {model name : List ℕ} {seed columns rows : ℕ} {job : Option Job} → job ≡ Some (Check model name) → job ≡ Some (Generate seed columns rows) → ⊥
check_drawn h e = cc

same_seed : {seed columns rows other counts others : ℕ} {job : Option Job} → job ≡ Some (Generate seed columns rows) → job ≡ Some (Generate other counts others) → seed ≡ other
same_seed h e = cc

same_columns : {seed columns rows other counts others : ℕ} {job : Option Job} → job ≡ Some (Generate seed columns rows) → job ≡ Some (Generate other counts others) → columns ≡ counts
same_columns h e = cc

same_rows : {seed columns rows other counts others : ℕ} {job : Option Job} → job ≡ Some (Generate seed columns rows) → job ≡ Some (Generate other counts others) → rows ≡ others
same_rows h e = cc

-- a job to solve a program that is drawn names no model
none_named : {model : List ℕ} {seed columns rows : ℕ} {job : Option Job} → job ≡ Some (Generate seed columns rows) → model_in job ≡ Some model → ⊥
none_named h e = no_name (sym (ap model_in h) ∙ e)

-- the program of figures is that of a text, where the words ask for one
text_source : (call : Call) {model : List ℕ} {blocks : Option (List ℕ)} {limits : Limits} → (a : IsAnswered call) → call.job ≡ Some (Solve model blocks limits) → IsOfText call a.program a.limits a.text_of
text_source call a e = elim a.source [ inl t ↦ t | inr d ↦ absurd (solve_drawn e d.asked) ]

-- it is the one that is drawn, where they ask for that
seed_source : (call : Call) {seed columns rows : ℕ} → (a : IsAnswered call) → call.job ≡ Some (Generate seed columns rows) → IsOfSeed call a.program a.limits a.text_of
seed_source call a e = elim a.source [ inl t ↦ absurd (solve_drawn t.asked e) | inr d ↦ d ]

-- figures are told of no point that is to be checked
not_checked : (call : Call) {model name : List ℕ} → (a : IsAnswered call) → call.job ≡ Some (Check model name) → ⊥
not_checked call a e = elim a.source [ inl t ↦ solve_check t.asked e | inr d ↦ check_drawn e d.asked ]

same_limits : {model other : List ℕ} {blocks others : Option (List ℕ)} {limits more : Limits} {job : Option Job} → job ≡ Some (Solve model blocks limits) → job ≡ Some (Solve other others more) → limits ≡ more
same_limits h e = cc

same_blocks : {model other : List ℕ} {blocks others : Option (List ℕ)} {limits more : Limits} {job : Option Job} → job ≡ Some (Solve model blocks limits) → job ≡ Some (Solve other others more) → blocks ≡ others
same_blocks h e = cc

same_name : {name other : List ℕ} → Some name ≡ Some other → name ≡ other
same_name e = cc

same_point : {model other name another : List ℕ} {job : Option Job} → job ≡ Some (Check model name) → job ≡ Some (Check other another) → name ≡ another
same_point h e = cc

-- what holds of the text of a name, where it is told, holds of the text
of_text : (P : List ℕ → Type 0) (text : Option (List ℕ)) (bytes : List ℕ) → IfSome text P → text ≡ Some bytes → P bytes
of_text P text bytes h e = subst (λ o. IfSome o P) e h

apart : {X : Type 0} {x : X} {l k : ℕ} → ◌≡◌ {A = Outcome X} (texts.Means x) (texts.Faulty l k) → ⊥
apart e = cc

same_line_of : {X : Type 0} {l m k n : ℕ} → ◌≡◌ {A = Outcome X} (texts.Faulty l k) (texts.Faulty m n) → l ≡ m
same_line_of e = cc

same_kind_of : {X : Type 0} {l m k n : ℕ} → ◌≡◌ {A = Outcome X} (texts.Faulty l k) (texts.Faulty m n) → k ≡ n
same_kind_of e = cc

no_line_fault : {K I X : Type 0} (r : Reading K I X) (text : List ℕ) (x : X) (line kind : ℕ) → HasResult r text x → HasLineFault r text line kind → ⊥
no_line_fault r text x line kind h e = apart (sym h.means ∙ e.faulty)

one_program_as : (lp : Bool) (text : List ℕ) (program other : Program) → HasProgramAs lp text program → HasProgramAs lp text other → program ≡ other
one_program_as true = one_result lp_reading
one_program_as false = one_result mps_reading

no_fault_as : (lp : Bool) (text : List ℕ) (program : Program) (line kind : ℕ) → HasProgramAs lp text program → HasFaultAs lp text line kind → ⊥
no_fault_as true text program line kind h e = no_line_fault lp_reading text program line e.number h e.fault
no_fault_as false text program line kind h e = no_line_fault mps_reading text program line kind h e

one_fault_as : (lp : Bool) (text : List ℕ) (line kind other_line other_kind : ℕ) → HasFaultAs lp text line kind → HasFaultAs lp text other_line other_kind → (line ≡ other_line) × (kind ≡ other_kind)
one_fault_as true text line kind other_line other_kind h e =
    let same = one_fault lp_reading text line h.number other_line e.number h.fault e.fault in
    (same.0, sym h.is_kind ∙ ap told_kind same.1 ∙ e.is_kind)
one_fault_as false text line kind other_line other_kind h e = one_fault mps_reading text line kind other_line other_kind h e

one_program_in : (model : Option (List ℕ)) (text : List ℕ) (program other : Program) → IsSomeAnd model (λ name. HasModel name text program) → IsSomeAnd model (λ name. HasModel name text other) → program ≡ other
one_program_in None text program other h e = absurd h
one_program_in (Some name) text program other h e = one_program_as (is_lp_name name) text program other h e

one_program : (call : Call) (text : List ℕ) (program other : Program) → HasProgram call text program → HasProgram call text other → program ≡ other
one_program call = one_program_in (model_in call.job)

no_fault_in : (model : Option (List ℕ)) (text : List ℕ) (program : Program) (line kind : ℕ) → IsSomeAnd model (λ name. HasModel name text program) → IsSomeAnd model (λ name. HasModelFault name text line kind) → ⊥
no_fault_in None text program line kind h e = h
no_fault_in (Some name) text program line kind h e = no_fault_as (is_lp_name name) text program line kind h e

no_fault : (call : Call) (text : List ℕ) (program : Program) (line kind : ℕ) → HasProgram call text program → HasFault call text line kind → ⊥
no_fault call = no_fault_in (model_in call.job)

one_fault_in : (model : Option (List ℕ)) (text : List ℕ) (line kind other_line other_kind : ℕ) → IsSomeAnd model (λ name. HasModelFault name text line kind) → IsSomeAnd model (λ name. HasModelFault name text other_line other_kind) → (line ≡ other_line) × (kind ≡ other_kind)
one_fault_in None text line kind other_line other_kind h e = absurd h
one_fault_in (Some name) text line kind other_line other_kind h e = one_fault_as (is_lp_name name) text line kind other_line other_kind h e

-- what holds of a name and its text, where the text is told, holds of the model that the words name
of_model : (call : Call) (P : List ℕ → List ℕ → Type 0) (model text : List ℕ) → IfSome (call.store.holds model) (λ bytes. P model bytes) → model_in call.job ≡ Some model → AsksOf call text → IsSomeAnd (model_in call.job) (λ name. P name text)
of_model call P model text h e asks =
    subst (λ (named : Option (List ℕ)). IsSomeAnd named (λ name. P name text)) (sym e)
    (of_text (λ bytes. P model bytes) _ text h (ap call.store.holds (same_name (sym e ∙ asks.named)) ∙ asks.held))

-- the program that was read is the one of the text
asked_program : (call : Call) (asked : Job) (model text : List ℕ) (program : Program) → IfSome (call.store.holds model) (λ bytes. HasModel model bytes program) → call.job ≡ Some asked → model_of asked ≡ Some model → AsksOf call text → HasProgram call text program
asked_program call asked model text program h e n asks =
    of_model call (λ name bytes. HasModel name bytes program) model text h (ap model_in e ∙ n) asks

fault_asked : (call : Call) (text : List ℕ) (fault : TextFault ModelKind) → AsksOf call text → HasFaultyModel call.job call.store call.store_after fault → HasFault call text fault.line (model_kind_number fault.kind)
fault_asked call text fault asks f =
    of_model call (λ name bytes. HasModelFault name bytes fault.line (model_kind_number fault.kind)) f.model text f.refuses.first (ap model_in f.is_asked ∙ f.named) asks

own_fault : (call : Call) (fault : TextFault ModelKind) → HasFaultyModel call.job call.store call.store_after fault → IsSomeAnd (model_in call.job) (λ model. is_lp_kind fault.kind ≡ is_lp_name model)
own_fault call fault f =
    subst (λ (named : Option (List ℕ)). IsSomeAnd named (λ model. is_lp_kind fault.kind ≡ is_lp_name model)) (sym (ap model_in f.is_asked ∙ f.named)) f.refuses.own

of_solve : (call : Call) (text : List ℕ) (limits : Limits) → Asks call text limits → AsksOf call text
of_solve call text limits asks = record { model = asks.model; named = ap model_in asks.job; held = asks.held }

of_blocks : (call : Call) (text blocks_text : List ℕ) → AsksWith call text blocks_text → AsksOf call text
of_blocks call text blocks_text asks = record { model = asks.model; named = ap model_in asks.job; held = asks.held }

of_check : (call : Call) (text point_text : List ℕ) → AsksToCheck call text point_text → AsksOf call text
of_check call text point_text asks = record { model = asks.model; named = ap model_in asks.job; held = asks.held }

program_asked : (call : Call) (text : List ℕ) → AsksOf call text → (a : IsAnswered call) → HasProgram call text a.program
program_asked call text asks a = elim a.source [
  | inl t ↦ asked_program call (Solve t.model t.blocks a.limits) t.model text a.program t.is_read t.asked refl asks
  | inr d ↦ absurd (none_named d.asked asks.named)
]

program_checked : (call : Call) (text : List ℕ) → AsksOf call text → (c : IsChecked call) → HasProgram call text c.program
program_checked call text asks c = asked_program call (Check c.model c.name) c.model text c.program c.is_read c.asked refl asks

-- the fault of the blocks that were read is one of the text, for the text's program
blocks_fault_asked : (call : Call) (text blocks_text : List ℕ) (program : Program) (line kind : ℕ) → AsksWith call text blocks_text → HasProgram call text program → HasFaultyBlocks call.job call.store call.store_after line kind → HasLineFault (block_reading program) blocks_text line kind
blocks_fault_asked call text blocks_text program line kind asks h f =
    let named : Some f.name ≡ Some asks.name = same_blocks f.is_asked asks.job in
    let found : HasProgram call text f.program = asked_program call (Solve f.model (Some f.name) f.limits) f.model text f.program (told _ _ f.program f.reads.is_read) f.is_asked refl (of_blocks call text blocks_text asks) in
    subst (λ p. HasLineFault (block_reading p) blocks_text line kind) (one_program call text f.program program found h)
    (of_text (λ bytes. HasLineFault (block_reading f.program) bytes line kind) _ blocks_text f.refuses.fault (ap call.store.holds (same_name named) ∙ asks.blocks_held))

point_fault_asked : (call : Call) (text point_text : List ℕ) (program : Program) (line kind : ℕ) → AsksToCheck call text point_text → HasProgram call text program → HasFaultyPoint call.job call.store call.store_after line kind → HasLineFault (point_reading program) point_text line kind
point_fault_asked call text point_text program line kind asks h f =
    let found : HasProgram call text f.program = asked_program call (Check f.model f.name) f.model text f.program (told _ _ f.program f.reads.is_read) f.is_asked refl (of_check call text point_text asks) in
    subst (λ p. HasLineFault (point_reading p) point_text line kind) (one_program call text f.program program found h)
    (of_text (λ bytes. HasLineFault (point_reading f.program) bytes line kind) _ point_text f.refuses.fault (ap call.store.holds (same_point f.is_asked asks.job) ∙ asks.point_held))

-- ---- the headline

-- the text of blocks that are refused has its first fault there as blocks of the program of the text
refuses_blocks : (call : Call) (text : List ℕ) (program : Program) (fault : TextFault BlockKind) → AsksOf call text → HasProgram call text program → GivesPlain call (Refused (Blocks fault)) → RefusesBlocks call program
refuses_blocks call text program fault asks h g =
    let f = g.cause in
    let found : HasProgram call text f.program = asked_program call (Solve f.model (Some f.name) f.limits) f.model text f.program (told _ _ f.program f.reads.is_read) f.is_asked refl asks in
    record {
      model = f.model;
      name = f.name;
      limits = f.limits;
      asked = f.is_asked;
      fault = fault;
      given = g;
      pulled = record { between = f.between; model_pulled = f.reads.pulled; second_pulled = f.refuses.pulled };
      first = subst (λ p. IfSome (call.store.holds f.name) (λ bytes. HasLineFault (block_reading p) bytes fault.line (block_kind_number fault.kind))) (one_program call text f.program program found h) f.refuses.fault;
    }

headline_plain : (call : Call) (answer : Plain) → GivesPlain call answer → (text : List ℕ) (limits : Limits) (program : Program) → Asks call text limits → HasProgram call text program → RefusesBlocks call program ⊎ IsCutShort call
headline_plain call Usage g text limits program asks h = absurd (some_job asks.job g.cause.0)
headline_plain call ReadFault g text limits program asks h = inr (inl g)
headline_plain call (Refused (Model fault)) g text limits program asks h =
    absurd (no_fault call text program fault.line (model_kind_number fault.kind) h (fault_asked call text fault (of_solve call text limits asks) g.cause))
headline_plain call (Refused (Blocks fault)) g text limits program asks h = inl (refuses_blocks call text program fault (of_solve call text limits asks) h g)
headline_plain call (Refused (Point fault)) g text limits program asks h = absurd (solve_check asks.job g.cause.is_asked)
headline_plain call NoMemory g text limits program asks h = inr (inr g)

headline_figures : (call : Call) (text : List ℕ) (limits : Limits) (program : Program) → Asks call text limits → HasProgram call text program → (a : IsAnswered call) → TellsTruth call program limits
headline_figures call text limits program asks h a =
    let t = text_source call a asks.job in
    subst (λ p. TellsTruth call p limits) (one_program call text a.program program (program_asked call text (of_solve call text limits asks) a) h)
    (subst (λ n. TellsTruth call a.program n) (same_limits t.asked asks.job) (subst (TellsBy call a.program a.limits) t.told a.answers))

headline : (call : Call) → Ran call → Headline call
headline call (gives_plain answer g) text limits program asks h = inr (headline_plain call answer g text limits program asks h)
headline call (gives_figures a) text limits program asks h = inl (headline_figures call text limits program asks h a)
headline call (gives_verdict c) text limits program asks h = absurd (solve_check asks.job c.asked)

-- ---- the work

-- where figures are told, they are those of what a search found
abbrev pub WorkOf : (call : Call) → Ran call → Type 0
WorkOf call (gives_plain answer g) = ⊤
WorkOf call (gives_figures a) = WorksBy call a.program a.limits a.text_of
WorkOf call (gives_verdict c) = ⊤

work_figures : (call : Call) (text : List ℕ) (limits : Limits) (program : Program) → Asks call text limits → HasProgram call text program → (a : IsAnswered call) → WorksBy call a.program a.limits a.text_of → TellsWork call program limits
work_figures call text limits program asks h a w =
    let t = text_source call a asks.job in
    subst (λ p. TellsWork call p limits) (one_program call text a.program program (program_asked call text (of_solve call text limits asks) a) h)
    (subst (λ n. TellsWork call a.program n) (same_limits t.asked asks.job) (subst (WorksBy call a.program a.limits) t.told w))

work_clause : (call : Call) (r : Ran call) → WorkOf call r → WorkClause call
work_clause call (gives_plain answer g) w text limits program asks h = inr (headline_plain call answer g text limits program asks h)
work_clause call (gives_figures a) w text limits program asks h = inl (work_figures call text limits program asks h a w)
work_clause call (gives_verdict c) w text limits program asks h = absurd (solve_check asks.job c.asked)

-- ---- the kit

tells_kit : (call : Call) (program : Program) (limits : Limits) → TellsWork call program limits → TellsKit call program limits
tells_kit call program limits w = record { truth = w.answers; trace = w.trace; lines_are = w.lines_are; served = w.kit }

-- a search without plugins leaves the kit as it is
plain_alone : (plain kept : Bool) (entries : List Entry) (less kit after : Stock) (trace : Option Trace) → plain ≡ true → IsKitAfter (is_alone plain (if plain then kit else less)) kept entries (if plain then kit else less) after trace → after ≡ kit
plain_alone true kept entries less kit after trace e k = k.same
plain_alone false kept entries less kit after trace e k = absurd (cc)

left_alone : (limits : Limits) (entries : List Entry) (kit after : Stock) (trace : Option Trace) (lacks : Type 0) → IsKitOf limits entries kit after trace lacks → limits.plain ≡ true → after ≡ kit
left_alone limits entries kit after trace lacks (inl k) e = plain_alone limits.plain limits.trace entries (less_off limits.off kit) kit after trace e k
left_alone limits entries kit after trace lacks (inr left) e = left.0.same

kit_served : (call : Call) (r : Ran call) → WorkOf call r → (text : List ℕ) (limits : Limits) (program : Program) → Asks call text limits → HasProgram call text program → TellsKit call program limits ⊎ (RefusesBlocks call program ⊎ IsCutShort call)
kit_served call (gives_plain answer g) w text limits program asks h = inr (headline_plain call answer g text limits program asks h)
kit_served call (gives_figures a) w text limits program asks h = inl (tells_kit call program limits (work_figures call text limits program asks h a w))
kit_served call (gives_verdict c) w text limits program asks h = absurd (solve_check asks.job c.asked)

plain_kit : (call : Call) (r : Ran call) → WorkOf call r → (model : List ℕ) (blocks : Option (List ℕ)) (limits : Limits) → call.job ≡ Some (Solve model blocks limits) → limits.plain ≡ true → call.kit_after ≡ call.kit
plain_kit call (gives_plain answer g) w model blocks limits e plain = g.same_kit
plain_kit call (gives_figures a) w model blocks limits e plain =
    left_alone a.limits w.answers.entries call.kit call.kit_after w.trace (w.answers.figures.status ≡ LacksMemory) w.kit (ap (λ (l : Limits). l.plain) (same_limits (text_source call a e).asked e) ∙ plain)
plain_kit call (gives_verdict c) w model blocks limits e plain = absurd (solve_check e c.asked)

searched : (call : Call) → (a : IsAnswered call) → AsksForSearch call.job
searched call a = elim a.source [
  | inl t ↦ subst AsksForSearch (sym t.asked) tt
  | inr d ↦ subst AsksForSearch (sym d.asked) tt
]

kit_unsearched : (call : Call) → Ran call → ¬ AsksForSearch call.job → call.kit_after ≡ call.kit
kit_unsearched call (gives_plain answer g) n = g.same_kit
kit_unsearched call (gives_figures a) n = absurd (n (searched call a))
kit_unsearched call (gives_verdict c) n = c.verdict.same_kit

kit_clause : (call : Call) (r : Ran call) → WorkOf call r → KitClause call
kit_clause call r w = record { served = kit_served call r w; plain = plain_kit call r w; no_search = kit_unsearched call r }

-- ---- programs that are drawn

-- of one that is drawn no text is faulty, and none was read
self_plain : (call : Call) (answer : Plain) → GivesPlain call answer → (seed columns rows : ℕ) → call.job ≡ Some (Generate seed columns rows) → GivesPlain call NoMemory
self_plain call Usage g seed columns rows e = absurd (some_job e g.cause.0)
self_plain call ReadFault g seed columns rows e = absurd (none_named e (ap model_in g.cause.is_asked ∙ g.cause.named))
self_plain call (Refused (Model fault)) g seed columns rows e = absurd (none_named e (ap model_in g.cause.is_asked ∙ g.cause.named))
self_plain call (Refused (Blocks fault)) g seed columns rows e = absurd (solve_drawn g.cause.is_asked e)
self_plain call (Refused (Point fault)) g seed columns rows e = absurd (check_drawn g.cause.is_asked e)
self_plain call NoMemory g seed columns rows e = g

-- the figures are those of the program that the words ask for
drawn_works : (call : Call) (a : IsAnswered call) → WorksBy call a.program a.limits a.text_of → IsOfSeed call a.program a.limits a.text_of → (seed columns rows : ℕ) → call.job ≡ Some (Generate seed columns rows) → WorksBy call (generated seed columns rows) usual_limits (self_told (drawn_as seed columns rows))
drawn_works call a w d seed columns rows e =
    subst (λ n. WorksBy call (generated seed columns n) usual_limits (self_told (drawn_as seed columns n))) (same_rows d.asked e)
    (subst (λ n. WorksBy call (generated seed n d.rows) usual_limits (self_told (drawn_as seed n d.rows))) (same_columns d.asked e)
    (subst (λ n. WorksBy call (generated n d.columns d.rows) usual_limits (self_told (drawn_as n d.columns d.rows))) (same_seed d.asked e)
    (subst (WorksBy call (generated d.seed d.columns d.rows) usual_limits) d.told
    (subst (λ l. WorksBy call (generated d.seed d.columns d.rows) l a.text_of) d.usual
    (subst (λ p. WorksBy call p a.limits a.text_of) d.is_drawn w)))))

self_told_of : (call : Call) (r : Ran call) → WorkOf call r → (seed columns rows : ℕ) → call.job ≡ Some (Generate seed columns rows) → WorksBy call (generated seed columns rows) usual_limits (self_told (drawn_as seed columns rows)) ⊎ GivesPlain call NoMemory
self_told_of call (gives_plain answer g) w seed columns rows e = inr (self_plain call answer g seed columns rows e)
self_told_of call (gives_figures a) w seed columns rows e = inl (drawn_works call a w (seed_source call a e) seed columns rows e)
self_told_of call (gives_verdict c) w seed columns rows e = absurd (check_drawn c.asked e)

self_untouched : (call : Call) → Ran call → (seed columns rows : ℕ) → call.job ≡ Some (Generate seed columns rows) → call.store_after ≡ call.store
self_untouched call (gives_plain answer g) seed columns rows e = (self_plain call answer g seed columns rows e).cause.untouched (ap model_in e)
self_untouched call (gives_figures a) seed columns rows e = (seed_source call a e).untouched
self_untouched call (gives_verdict c) seed columns rows e = absurd (check_drawn c.asked e)

-- ---- checks

check_plain : (call : Call) (answer : Plain) → GivesPlain call answer → (text point_text : List ℕ) (program : Program) (point : List ℚ) → AsksToCheck call text point_text → HasProgram call text program → HasResult (point_reading program) point_text point → IsCutShort call
check_plain call Usage g text point_text program point asks h p = absurd (some_job asks.job g.cause.0)
check_plain call ReadFault g text point_text program point asks h p = inl g
check_plain call (Refused (Model fault)) g text point_text program point asks h p =
    absurd (no_fault call text program fault.line (model_kind_number fault.kind) h (fault_asked call text fault (of_check call text point_text asks) g.cause))
check_plain call (Refused (Blocks fault)) g text point_text program point asks h p = absurd (solve_check g.cause.is_asked asks.job)
check_plain call (Refused (Point fault)) g text point_text program point asks h p =
    absurd (no_line_fault (point_reading program) point_text point fault.line (point_kind_number fault.kind) p (point_fault_asked call text point_text program fault.line (point_kind_number fault.kind) asks h g.cause))
check_plain call NoMemory g text point_text program point asks h p = inr g

check_verdict : (call : Call) (c : IsChecked call) (text point_text : List ℕ) (program : Program) (point : List ℚ) → AsksToCheck call text point_text → HasProgram call text program → HasResult (point_reading program) point_text point → TellsVerdict call program point
check_verdict call c text point_text program point asks h p =
    let same = one_program call text c.program program (program_checked call text (of_check call text point_text asks) c) h in
    let found : HasResult (point_reading c.program) point_text c.point = of_text (λ bytes. HasResult (point_reading c.program) bytes c.point) _ point_text c.is_point (ap call.store.holds (same_point c.asked asks.job) ∙ asks.point_held) in
    subst (TellsVerdict call program) (one_result (point_reading program) point_text c.point point (subst (λ q. HasResult (point_reading q) point_text c.point) same found) p)
    (subst (λ q. TellsVerdict call q c.point) same c.verdict)

check_always : (call : Call) → Ran call → (text point_text : List ℕ) (program : Program) (point : List ℚ) → AsksToCheck call text point_text → HasProgram call text program → HasResult (point_reading program) point_text point → TellsVerdict call program point ⊎ IsCutShort call
check_always call (gives_plain answer g) text point_text program point asks h p = inr (check_plain call answer g text point_text program point asks h p)
check_always call (gives_figures a) text point_text program point asks h p = absurd (not_checked call a asks.job)
check_always call (gives_verdict c) text point_text program point asks h p = inl (check_verdict call c text point_text program point asks h p)

own_verdict : (call : Call) (c : IsChecked call) → call.status ≢ 5 → call.status ≡ check_status (checked c.program c.point)
own_verdict call c not_5 = elim (said_verdict call c).either [ inl h ↦ h.0 | inr h ↦ absurd (not_5 h.0) ]

no_plain : (call : Call) (answer : Plain) → GivesPlain call answer → {asked : Job} → call.job ≡ Some asked → call.status ≢ 3 → call.status ≢ 4 → call.status ≢ 5 → call.status ≢ 6 → ⊥
no_plain call Usage g e not_3 not_4 not_5 not_6 = some_job e g.cause.0
no_plain call ReadFault g e not_3 not_4 not_5 not_6 = not_own call 3 (said_plain call ReadFault g) not_3 not_5
no_plain call (Refused fault) g e not_3 not_4 not_5 not_6 = not_own call 4 (said_plain call (Refused fault) g) not_4 not_5
no_plain call NoMemory g e not_3 not_4 not_5 not_6 = not_own call 6 (said_plain call NoMemory g) not_6 not_5

check_exact : (call : Call) → Ran call → (model name : List ℕ) → call.job ≡ Some (Check model name) → call.status ≢ 3 → call.status ≢ 4 → call.status ≢ 5 → call.status ≢ 6 → (c : IsChecked call) × (call.status ≡ check_status (checked c.program c.point))
check_exact call (gives_plain answer g) model name e not_3 not_4 not_5 not_6 = absurd (no_plain call answer g e not_3 not_4 not_5 not_6)
check_exact call (gives_figures a) model name e not_3 not_4 not_5 not_6 = absurd (not_checked call a e)
check_exact call (gives_verdict c) model name e not_3 not_4 not_5 not_6 = (c, own_verdict call c not_5)

check_broken : (call : Call) → Ran call → call.status ≡ 1 → BreaksSome call
check_broken call (gives_plain answer g) e = absurd (plain_not_one answer (own_answer call _ 1 (said_plain call answer g) e one_five))
check_broken call (gives_figures a) e = absurd (figures_not_one a.answers.figures.status (own_answer call _ 1 (said_figures call a) e one_five))
check_broken call (gives_verdict c) e = record {
  is_checked = c;
  breach = is_breach c.program c.point (verdict_of c.program c.point) (own_answer call _ 1 (said_verdict call c) e one_five);
}

check_clause : (call : Call) → Ran call → CheckClause call
check_clause call r = record { always = check_always call r; exact = check_exact call r; broken = check_broken call r }

-- ---- usage

usage_only : (call : Call) → Ran call → call.status ≡ 2 → call.job ≡ None
usage_only call (gives_plain answer g) e =
    (subst (TaskCause call.job call.store call.store_after) (says_usage answer (own_answer call _ 2 (said_plain call answer g) e two_five)) g.cause).0
usage_only call (gives_figures a) e = absurd (figures_not_two a.answers.figures.status (own_answer call _ 2 (said_figures call a) e two_five))
usage_only call (gives_verdict c) e = absurd (verdict_not_two (checked c.program c.point) (own_answer call _ 2 (said_verdict call c) e two_five))

refuses_words : (call : Call) (answer : Plain) → GivesPlain call answer → call.job ≡ None → GivesPlain call Usage ⊎ GivesPlain call NoMemory
refuses_words call Usage g e = inl g
refuses_words call ReadFault g e = absurd (some_job g.cause.is_asked e)
refuses_words call (Refused (Model fault)) g e = absurd (some_job g.cause.is_asked e)
refuses_words call (Refused (Blocks fault)) g e = absurd (some_job g.cause.is_asked e)
refuses_words call (Refused (Point fault)) g e = absurd (some_job g.cause.is_asked e)
refuses_words call NoMemory g e = inr g

usage_always : (call : Call) → Ran call → call.job ≡ None → GivesPlain call Usage ⊎ GivesPlain call NoMemory
usage_always call (gives_plain answer g) e = refuses_words call answer g e
usage_always call (gives_figures a) e = elim a.source [ inl t ↦ absurd (some_job t.asked e) | inr d ↦ absurd (some_job d.asked e) ]
usage_always call (gives_verdict c) e = absurd (some_job c.asked e)

untouched : (call : Call) → Ran call → call.job ≡ None → call.store_after ≡ call.store
untouched call r e = elim (usage_always call r e) [ inl g ↦ g.cause.1 | inr g ↦ g.cause.untouched (ap model_in e) ]

usage_clause : (call : Call) → Ran call → UsageClause call
usage_clause call r = record { only = usage_only call r; always = usage_always call r; untouched = untouched call r }

-- ---- read faults

rose_behind : (asked : Job) (model : List ℕ) (old new : StoreTells) → FailsBehind asked model old new → Rose old.faults new.faults
rose_behind asked model old new f = subst (λ n. Rose n new.faults) f.reads.sound f.rose

rose : (call : Call) → Ran call → call.status ≡ 3 → Rose call.store.faults call.store_after.faults
rose call (gives_plain answer g) e =
    let cause = subst (TaskCause call.job call.store call.store_after) (says_read_fault answer (own_answer call _ 3 (said_plain call answer g) e three_five)) g.cause in
    elim cause.fails [ inl h ↦ h | inr f ↦ rose_behind cause.asked cause.model call.store call.store_after f ]
rose call (gives_figures a) e = absurd (figures_not_three a.answers.figures.status (own_answer call _ 3 (said_figures call a) e three_five))
rose call (gives_verdict c) e = absurd (verdict_not_three (checked c.program c.point) (own_answer call _ 3 (said_verdict call c) e three_five))

plain_sound : (call : Call) (answer : Plain) → GivesPlain call answer → call.status ≢ 3 → call.status ≢ 5 → IsStoreSound call
plain_sound call Usage g not_3 not_5 = ap (λ (store : StoreTells). store.faults) g.cause.1
plain_sound call ReadFault g not_3 not_5 = absurd (not_own call 3 (said_plain call ReadFault g) not_3 not_5)
plain_sound call (Refused (Model fault)) g not_3 not_5 = g.cause.refuses.sound
plain_sound call (Refused (Blocks fault)) g not_3 not_5 = g.cause.refuses.sound ∙ g.cause.reads.sound
plain_sound call (Refused (Point fault)) g not_3 not_5 = g.cause.refuses.sound ∙ g.cause.reads.sound
plain_sound call NoMemory g not_3 not_5 = g.cause.sound

store_sound : (call : Call) → Ran call → call.status ≢ 3 → call.status ≢ 5 → IsStoreSound call
store_sound call (gives_plain answer g) not_3 not_5 = plain_sound call answer g not_3 not_5
store_sound call (gives_figures a) not_3 not_5 = a.sound
store_sound call (gives_verdict c) not_3 not_5 = c.sound

none_pulled : (old new : StoreTells) → new ≡ old → ArePulled None None old new
none_pulled old new e = record { between = old; model_pulled = refl; second_pulled = e }

pulled : (call : Call) → Ran call → (asked : Job) → call.job ≡ Some asked → call.status ≢ 3 → call.status ≢ 4 → call.status ≢ 5 → call.status ≢ 6 → ArePulled (model_of asked) (second_of asked) call.store call.store_after
pulled call (gives_plain answer g) asked h not_3 not_4 not_5 not_6 = absurd (no_plain call answer g h not_3 not_4 not_5 not_6)
pulled call (gives_figures a) asked h not_3 not_4 not_5 not_6 = elim a.source [
  | inl t ↦ subst (λ job. ArePulled (model_of job) (second_of job) call.store call.store_after) (one_job t.asked h) t.pulled
  | inr d ↦ subst (λ job. ArePulled (model_of job) (second_of job) call.store call.store_after) (one_job d.asked h) (none_pulled call.store call.store_after d.untouched)
]
pulled call (gives_verdict c) asked h not_3 not_4 not_5 not_6 = subst (λ job. ArePulled (model_of job) (second_of job) call.store call.store_after) (one_job c.asked h) c.pulled

-- of a refusal
pulled_to : (call : Call) (fault : FaultyText) → GivesPlain call (Refused fault) → (asked : Job) → call.job ≡ Some asked → ArePulled (model_of asked) (behind_up_to fault asked) call.store call.store_after
pulled_to call (Model fault) g asked h =
    subst (λ job. ArePulled (model_of job) None call.store call.store_after) (one_job g.cause.is_asked h)
    (subst (λ named. ArePulled named None call.store call.store_after) (sym g.cause.named) (record { between = call.store_after; model_pulled = g.cause.refuses.pulled; second_pulled = refl }))
pulled_to call (Blocks fault) g asked h =
    subst (λ job. ArePulled (model_of job) (second_of job) call.store call.store_after) (one_job g.cause.is_asked h)
    (record { between = g.cause.between; model_pulled = g.cause.reads.pulled; second_pulled = g.cause.refuses.pulled })
pulled_to call (Point fault) g asked h =
    subst (λ job. ArePulled (model_of job) (second_of job) call.store call.store_after) (one_job g.cause.is_asked h)
    (record { between = g.cause.between; model_pulled = g.cause.reads.pulled; second_pulled = g.cause.refuses.pulled })

-- with status 4 a refusal is told
refusal : (call : Call) → Ran call → call.status ≡ 4 → (fault : FaultyText) × GivesPlain call (Refused fault)
refusal call (gives_plain answer g) e =
    let refuses = says_refused answer (own_answer call _ 4 (said_plain call answer g) e four_five) in
    (refuses.0, subst (GivesPlain call) refuses.1 g)
refusal call (gives_figures a) e = absurd (figures_not_four a.answers.figures.status (own_answer call _ 4 (said_figures call a) e four_five))
refusal call (gives_verdict c) e = absurd (verdict_not_four (checked c.program c.point) (own_answer call _ 4 (said_verdict call c) e four_five))

up_to_fault : (call : Call) → Ran call → (asked : Job) → call.job ≡ Some asked → call.status ≡ 4 → PullsToFault call asked
up_to_fault call r asked h e =
    let refuses = refusal call r e in
    record { fault = refuses.0; given = refuses.1; pulled = pulled_to call refuses.0 refuses.1 asked h }

read_fault_clause : (call : Call) → Ran call → ReadFaultClause call
read_fault_clause call r = record { rose = rose call r; sound = store_sound call r; whole = pulled call r; up_to_fault = up_to_fault call r }

-- ---- refusals

blocks_first : (call : Call) (fault : TextFault BlockKind) → GivesPlain call (Refused (Blocks fault)) → (text blocks_text : List ℕ) → AsksWith call text blocks_text → HasBlocksFault call text blocks_text fault.line (block_kind_number fault.kind)
blocks_first call fault g text blocks_text asks =
    let f = g.cause in
    let found : HasProgram call text f.program = asked_program call (Solve f.model (Some f.name) f.limits) f.model text f.program (told _ _ f.program f.reads.is_read) f.is_asked refl (of_blocks call text blocks_text asks) in
    record { program = f.program; is_program = found; first = blocks_fault_asked call text blocks_text f.program fault.line (block_kind_number fault.kind) asks found f }

point_first : (call : Call) (fault : TextFault PointKind) → GivesPlain call (Refused (Point fault)) → (text point_text : List ℕ) → AsksToCheck call text point_text → HasPointFault call text point_text fault.line (point_kind_number fault.kind)
point_first call fault g text point_text asks =
    let f = g.cause in
    let found : HasProgram call text f.program = asked_program call (Check f.model f.name) f.model text f.program (told _ _ f.program f.reads.is_read) f.is_asked refl (of_check call text point_text asks) in
    record { program = f.program; is_program = found; first = point_fault_asked call text point_text f.program fault.line (point_kind_number fault.kind) asks found f }

first_fault : (call : Call) (fault : FaultyText) → GivesPlain call (Refused fault) → IsFirstFault call fault
first_fault call (Model fault) g = λ text asks. fault_asked call text fault asks g.cause
first_fault call (Blocks fault) g = blocks_first call fault g
first_fault call (Point fault) g = point_first call fault g

refused_only : (call : Call) → Ran call → call.status ≡ 4 → (fault : FaultyText) × GivesPlain call (Refused fault) × IsFirstFault call fault
refused_only call r e = let refuses = refusal call r e in (refuses.0, refuses.1, first_fault call refuses.0 refuses.1)

model_plain : (call : Call) (answer : Plain) → GivesPlain call answer → (text : List ℕ) (line kind : ℕ) → AsksOf call text → HasFault call text line kind → TellsModelFault call line kind ⊎ IsCutShort call
model_plain call Usage g text line kind asks h = absurd (no_name (sym (ap model_in g.cause.0) ∙ asks.named))
model_plain call ReadFault g text line kind asks h = inr (inl g)
model_plain call (Refused (Model fault)) g text line kind asks h =
    let same = one_fault_in (model_in call.job) text fault.line (model_kind_number fault.kind) line kind (fault_asked call text fault asks g.cause) h in
    inl (record { fault = fault; is_line = same.0; is_kind = same.1; own = own_fault call fault g.cause; given = g })
model_plain call (Refused (Blocks fault)) g text line kind asks h =
    absurd (no_fault call text g.cause.program line kind (asked_program call _ g.cause.model text g.cause.program (told _ _ g.cause.program g.cause.reads.is_read) g.cause.is_asked refl asks) h)
model_plain call (Refused (Point fault)) g text line kind asks h =
    absurd (no_fault call text g.cause.program line kind (asked_program call _ g.cause.model text g.cause.program (told _ _ g.cause.program g.cause.reads.is_read) g.cause.is_asked refl asks) h)
model_plain call NoMemory g text line kind asks h = inr (inr g)

model_always : (call : Call) → Ran call → (text : List ℕ) (line kind : ℕ) → AsksOf call text → HasFault call text line kind → TellsModelFault call line kind ⊎ IsCutShort call
model_always call (gives_plain answer g) text line kind asks h = model_plain call answer g text line kind asks h
model_always call (gives_figures a) text line kind asks h = absurd (no_fault call text a.program line kind (program_asked call text asks a) h)
model_always call (gives_verdict c) text line kind asks h = absurd (no_fault call text c.program line kind (program_checked call text asks c) h)

blocks_plain : (call : Call) (answer : Plain) → GivesPlain call answer → (text blocks_text : List ℕ) (program : Program) (line kind : ℕ) → AsksWith call text blocks_text → HasProgram call text program → HasLineFault (block_reading program) blocks_text line kind → TellsBlockFault call line kind ⊎ IsCutShort call
blocks_plain call Usage g text blocks_text program line kind asks h f = absurd (some_job asks.job g.cause.0)
blocks_plain call ReadFault g text blocks_text program line kind asks h f = inr (inl g)
blocks_plain call (Refused (Model fault)) g text blocks_text program line kind asks h f =
    absurd (no_fault call text program fault.line (model_kind_number fault.kind) h (fault_asked call text fault (of_blocks call text blocks_text asks) g.cause))
blocks_plain call (Refused (Blocks fault)) g text blocks_text program line kind asks h f =
    let same = sym (blocks_fault_asked call text blocks_text program fault.line (block_kind_number fault.kind) asks h g.cause).faulty ∙ f.faulty in
    inl (record { fault = fault; is_line = same_line_of same; is_kind = same_kind_of same; given = g })
blocks_plain call (Refused (Point fault)) g text blocks_text program line kind asks h f = absurd (solve_check asks.job g.cause.is_asked)
blocks_plain call NoMemory g text blocks_text program line kind asks h f = inr (inr g)

-- blocks that were read have no fault
blocks_answered : (call : Call) (a : IsAnswered call) (text blocks_text : List ℕ) (program : Program) (line kind : ℕ) → AsksWith call text blocks_text → HasProgram call text program → HasLineFault (block_reading program) blocks_text line kind → ⊥
blocks_answered call a text blocks_text program line kind asks h f =
    let t = text_source call a asks.job in
    let named : BlocksAreRead a.program (Some asks.name) call.store = subst (λ b. BlocksAreRead a.program b call.store) (same_blocks t.asked asks.job) t.are_read in
    let found = of_text (λ bytes. (parts : _) × HasResult (block_reading a.program) bytes parts) _ blocks_text named asks.blocks_held in
    let same = one_program call text a.program program (program_asked call text (of_blocks call text blocks_text asks) a) h in
    no_line_fault (block_reading a.program) blocks_text found.0 line kind found.1 (subst (λ q. HasLineFault (block_reading q) blocks_text line kind) (sym same) f)

blocks_always : (call : Call) → Ran call → (text blocks_text : List ℕ) (program : Program) (line kind : ℕ) → AsksWith call text blocks_text → HasProgram call text program → HasLineFault (block_reading program) blocks_text line kind → TellsBlockFault call line kind ⊎ IsCutShort call
blocks_always call (gives_plain answer g) text blocks_text program line kind asks h f = blocks_plain call answer g text blocks_text program line kind asks h f
blocks_always call (gives_figures a) text blocks_text program line kind asks h f = absurd (blocks_answered call a text blocks_text program line kind asks h f)
blocks_always call (gives_verdict c) text blocks_text program line kind asks h f = absurd (solve_check asks.job c.asked)

point_plain : (call : Call) (answer : Plain) → GivesPlain call answer → (text point_text : List ℕ) (program : Program) (line kind : ℕ) → AsksToCheck call text point_text → HasProgram call text program → HasLineFault (point_reading program) point_text line kind → TellsPointFault call line kind ⊎ IsCutShort call
point_plain call Usage g text point_text program line kind asks h f = absurd (some_job asks.job g.cause.0)
point_plain call ReadFault g text point_text program line kind asks h f = inr (inl g)
point_plain call (Refused (Model fault)) g text point_text program line kind asks h f =
    absurd (no_fault call text program fault.line (model_kind_number fault.kind) h (fault_asked call text fault (of_check call text point_text asks) g.cause))
point_plain call (Refused (Blocks fault)) g text point_text program line kind asks h f = absurd (solve_check g.cause.is_asked asks.job)
point_plain call (Refused (Point fault)) g text point_text program line kind asks h f =
    let same = sym (point_fault_asked call text point_text program fault.line (point_kind_number fault.kind) asks h g.cause).faulty ∙ f.faulty in
    inl (record { fault = fault; is_line = same_line_of same; is_kind = same_kind_of same; given = g })
point_plain call NoMemory g text point_text program line kind asks h f = inr (inr g)

-- a point that was read has no fault
point_checked : (call : Call) (c : IsChecked call) (text point_text : List ℕ) (program : Program) (line kind : ℕ) → AsksToCheck call text point_text → HasProgram call text program → HasLineFault (point_reading program) point_text line kind → ⊥
point_checked call c text point_text program line kind asks h f =
    let found : HasResult (point_reading c.program) point_text c.point = of_text (λ bytes. HasResult (point_reading c.program) bytes c.point) _ point_text c.is_point (ap call.store.holds (same_point c.asked asks.job) ∙ asks.point_held) in
    let same = one_program call text c.program program (program_checked call text (of_check call text point_text asks) c) h in
    no_line_fault (point_reading c.program) point_text c.point line kind found (subst (λ q. HasLineFault (point_reading q) point_text line kind) (sym same) f)

point_always : (call : Call) → Ran call → (text point_text : List ℕ) (program : Program) (line kind : ℕ) → AsksToCheck call text point_text → HasProgram call text program → HasLineFault (point_reading program) point_text line kind → TellsPointFault call line kind ⊎ IsCutShort call
point_always call (gives_plain answer g) text point_text program line kind asks h f = point_plain call answer g text point_text program line kind asks h f
point_always call (gives_figures a) text point_text program line kind asks h f = absurd (not_checked call a asks.job)
point_always call (gives_verdict c) text point_text program line kind asks h f = absurd (point_checked call c text point_text program line kind asks h f)

refused_clause : (call : Call) → Ran call → RefusedClause call
refused_clause call r = record { only = refused_only call r; model = model_always call r; blocks = blocks_always call r; point = point_always call r }

-- ---- write faults

write_fault_of : (call : Call) (status : ℕ) → StatusIs call status → status ≢ 5 → WriteFaultClause call
write_fault_of call status s n = record {
  rose = λ e. elim s.either [ inl h ↦ absurd (n (sym h.0 ∙ e)) | inr h ↦ h.1 ];
  sound = λ not_5. elim s.either [ inl h ↦ h.1 | inr h ↦ absurd (not_5 h.0) ];
}

write_fault_clause : (call : Call) → Ran call → WriteFaultClause call
write_fault_clause call (gives_plain answer g) = write_fault_of call _ (said_plain call answer g) (plain_below_five answer)
write_fault_clause call (gives_figures a) = write_fault_of call _ (said_figures call a) (figures_not_five a.answers.figures.status)
write_fault_clause call (gives_verdict c) = write_fault_of call _ (said_verdict call c) (verdict_not_five (checked c.program c.point))

-- ---- node budgets

not_lacking : NodeLimit ≡ LacksMemory → ⊥
not_lacking e = cc

spent_of : (call : Call) (a : IsAnswered call) → a.answers.figures.status ≡ NodeLimit → IsLogged call.logs call.logs_after a.answers.entries a.answers.figures.status → SpentLog call
spent_of call a limit (inl l) =
    let both : EndsWith a.program a.answers.start a.limits.nodes a.limits.gap a.answers.entries a.answers.figures NodeLimit = subst (EndsWith a.program a.answers.start a.limits.nodes a.limits.gap a.answers.entries a.answers.figures) limit a.answers.are_true.ends in
    let spent = both.0 in
    record {
      answered = a;
      limit = limit;
      log = l.log;
      added = l.added;
      full = subst (λ es. length es ≡ a.limits.nodes) l.entries_are spent.full;
      spent = subst (λ es. IsSpent a.program a.answers.start a.limits.nodes es a.answers.figures.held) l.entries_are spent;
      far = both.1;
    }
spent_of call a limit (inr n) = absurd (not_lacking (sym limit ∙ n.1))

spent_log : (call : Call) → Ran call → call.status ≡ 10 → SpentLog call
spent_log call (gives_plain answer g) e = absurd (plain_not_ten answer (own_answer call _ 10 (said_plain call answer g) e ten_five))
spent_log call (gives_verdict c) e = absurd (verdict_not_ten (checked c.program c.point) (own_answer call _ 10 (said_verdict call c) e ten_five))
spent_log call (gives_figures a) e =
    spent_of call a (is_spent a.answers.figures.status (own_answer call _ 10 (said_figures call a) e ten_five)) a.answers.logged

no_limit : (call : Call) (program : Program) (limits : Limits) (n : ℕ) → leaf_count program.integral (root program) ≡ Some n → max 1 (2 * n - 1) ≤ limits.nodes → TellsTruth call program limits → call.status ≡ 10 → ⊥
no_limit call program limits n e l t ten =
    let limit = is_spent t.figures.status (own_answer call _ 10 (said call _ (exit_status t.figures.status) t.told) ten ten_five) in
    let both : EndsWith program t.start limits.nodes limits.gap t.entries t.figures NodeLimit = subst (EndsWith program t.start limits.nodes limits.gap t.entries t.figures) limit t.are_true.ends in
    let short : length t.entries < max 1 (2 * n - 1) = budgets_suffice program t.start t.entries t.figures.held n t.are_true.logged both.0.matter e in
    let full : length t.entries ≡ limits.nodes = both.0.full in
    omega (arith, short, full, l)

ample : (call : Call) → Ran call → (text : List ℕ) (limits : Limits) (program : Program) (n : ℕ) → Asks call text limits → HasProgram call text program → leaf_count program.integral (root program) ≡ Some n → max 1 (2 * n - 1) ≤ limits.nodes → call.status ≢ 10
ample call (gives_plain answer g) text limits program n asks h e l ten = plain_not_ten answer (own_answer call _ 10 (said_plain call answer g) ten ten_five)
ample call (gives_figures a) text limits program n asks h e l ten = no_limit call program limits n e l (headline_figures call text limits program asks h a) ten
ample call (gives_verdict c) text limits program n asks h e l ten = absurd (solve_check asks.job c.asked)

-- ---- gaps

gap_log : (call : Call) → Ran call → call.status ≡ 13 → GapLog call
gap_log call (gives_plain answer g) e = absurd (plain_not_thirteen answer (own_answer call _ 13 (said_plain call answer g) e thirteen_five))
gap_log call (gives_verdict c) e = absurd (verdict_not_thirteen (checked c.program c.point) (own_answer call _ 13 (said_verdict call c) e thirteen_five))
gap_log call (gives_figures a) e =
    let is : a.answers.figures.status ≡ Gap = is_near a.answers.figures.status (own_answer call _ 13 (said_figures call a) e thirteen_five) in
    record {
      answered = a;
      gap = is;
      near = subst (EndsWith a.program a.answers.start a.limits.nodes a.limits.gap a.answers.entries a.answers.figures) is a.answers.are_true.ends;
    }

gap_always : (call : Call) (a : IsAnswered call) → FiguresReachGap call a → EndsItself a.answers.figures.status → call.status ≢ 5 → call.status ≡ 13
gap_always call a near itself n =
    let is : a.answers.figures.status ≡ Gap = gap_by_word a.answers.figures.status (a.answers.are_true.exact Gap tt itself near) in
    elim (said_figures call a).either [
      | inl h ↦ h.0 ∙ ap exit_status is
      | inr h ↦ absurd (n h.0)
    ]

no_gap_asked : (call : Call) → Ran call → (text : List ℕ) (limits : Limits) → Asks call text limits → limits.gap ≡ None → call.status ≢ 13
no_gap_asked call r text limits asks none e =
    let g = gap_log call r e in
    let same : g.answered.limits ≡ limits = same_limits (text_source call g.answered asks.job).asked asks.job in
    subst (λ asked. ReachesGap asked (Some g.near.cost) (Some g.near.least)) (ap (λ (l : Limits). l.gap) same ∙ none) g.near.reached

-- nor is one asked for of a program that is drawn
self_no_gap : (call : Call) → Ran call → (seed columns rows : ℕ) → call.job ≡ Some (Generate seed columns rows) → call.status ≢ 13
self_no_gap call r seed columns rows e s =
    let g = gap_log call r s in
    subst (λ asked. ReachesGap asked (Some g.near.cost) (Some g.near.least)) (ap (λ (l : Limits). l.gap) (seed_source call g.answered e).usual) g.near.reached

-- ---- overflows, and want of memory

overflow_clause : (call : Call) → Ran call → OverflowClause call
overflow_clause call (gives_plain answer g) e = absurd (plain_not_eleven answer (own_answer call _ 11 (said_plain call answer g) e eleven_five))
overflow_clause call (gives_figures a) e =
    let shown = is_wide a.answers.figures.status (own_answer call _ 11 (said_figures call a) e eleven_five) in
    let both : EndsWith a.program a.answers.start a.limits.nodes a.limits.gap a.answers.entries a.answers.figures (Wide shown.0 shown.1) = subst (EndsWith a.program a.answers.start a.limits.nodes a.limits.gap a.answers.entries a.answers.figures) shown.2 a.answers.are_true.ends in
    inl (record {
      answered = a;
      leaf = shown.0;
      place = shown.1;
      shown = shown.2;
      overflows = both.0;
      far = both.1;
    })
overflow_clause call (gives_verdict c) e =
    let shown = is_overflow c.program c.point (verdict_of c.program c.point) (own_answer call _ 11 (said_verdict call c) e eleven_five) in
    inr (record { is_checked = c; place = shown.0; verdict = shown.1 })

memory_clause : (call : Call) → Ran call → MemoryClause call
memory_clause call (gives_plain answer g) e =
    inl (subst (GivesPlain call) (says_no_memory answer (own_answer call _ 6 (said_plain call answer g) e six_five)) g)
memory_clause call (gives_figures a) e = inr a
memory_clause call (gives_verdict c) e = absurd (verdict_not_six (checked c.program c.point) (own_answer call _ 6 (said_verdict call c) e six_five))

-- all of them
pub runs : (call : Call) (r : Ran call) → WorkOf call r → Runs call
runs call r w = record {
  ran = r;
  statuses = statuses call r;
  headline = headline call r;
  work = work_clause call r w;
  kit = kit_clause call r w;
  self = record { told = self_told_of call r w; untouched = self_untouched call r; no_gap = self_no_gap call r };
  check = check_clause call r;
  usage = usage_clause call r;
  read_fault = read_fault_clause call r;
  refused = refused_clause call r;
  write_fault = write_fault_clause call r;
  node_limit = record { spent = spent_log call r; ample = ample call r };
  gap = record { only = gap_log call r; always = gap_always call; unasked = no_gap_asked call r };
  overflow = overflow_clause call r;
  memory = memory_clause call r;
}
