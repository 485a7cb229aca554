-- What a search has answered has its figures told.
use Rattle.std.specs.Prelude.{◌≡◌, ◌⊎◌, ℕ, ◌+◌, ◌<◌, ◌≤◌, Bool, true, false, List, [], ◌∷◌, ◌++◌, Option, None, refl, if◌then◌else◌}
use Rattle.std.specs.Prelude.{Result, OnOk, is_err}
use Rattle.std.proofs.Common.{sym, ap, ◌∙◌, subst, arith, inl, inr, Ok, Err}
use Rattle.cip_events.specs.declared.traces.Trace.{Trace}
use Rattle.cip_io.specs.Sink.{SinkTells}
use Rattle.cip_problem.specs.Program.{Program}
use Rattle.cip_problem.specs.Log.{Entry}
use Rattle.cip_search.specs.Figures.{NoMemory, exit_status}
use Rattle.cip_input.specs.LimitedModels.{IsLimited}
use Rattle.cip_report.specs.Answers.{AnswerFits, figures_of, status_of}
use Rattle.cip_report.specs.declared.figures.Ended.{Ended}
use Rattle.cip_report.specs.declared.figures.Ended.TheVariants.{NoMemory as LacksMemory}
use Rattle.cip_report.specs.declared.figures.Answer.{Answer}
use Rattle.cip_solve.specs.AnswerOf.{answer_of}
use Rattle.cip_solve.specs.Beginning.{root_value}
use Rattle.cip_solve.specs.Logs.{entries_of, numbers_of}
use Rattle.cip_solve.specs.Kits.{Stock, IsFew, less_off}
use Rattle.cip_report.specs.Traces.{kept_lines}
use Rattle.cip_solve.specs.KitsServed.{is_alone, IsKitAfter}
use Rattle.cip_solve.specs.Solved.{IsSolved, IsSolvedBy}
use Rattle.cip_solve.specs.declared.logs.Log.{Log}
use Rattle.cip_solve.proofs.Fits.{answer_fits}
use Rattle.cip_solve.proofs.PassedOn.{still_few}
use Rattle.cip_main.specs.Answering.{Telling, AddsLog, AddsNone, IsLogged}
use Rattle.cip_main.specs.Work.{Searched, TellsWhatIsLeft, Works, kit_of, goes_alone, IsKitOf}
use Rattle.cip_input.specs.Jobs.{Limits, usual_limits, usual_nodes}
use Rattle.cip_main.specs.Saying.{Says}
use Rattle.cip_main.proofs.TrueFigures.{lacks, are_true, figures_same}
use Rattle.cip_main.proofs.Left.{left_of}
use Rattle.cip_main.proofs.RootBox.{is_box_bound}

-- where no lines are kept there is no trace
none_told_after : (alone kept : Bool) (entries : List Entry) (stock stock_after : Stock) (trace : Option Trace) → IsKitAfter alone kept entries stock stock_after trace → kept ≡ false → trace ≡ None
none_told_after true kept entries stock stock_after trace k e = k.untold
none_told_after false true entries stock stock_after trace k e = absurd (cc)
none_told_after false false entries stock stock_after trace (inl served) e = served.ends.told
none_told_after false false entries stock stock_after trace (inr left) e = left.0.untold

none_told : (limits : Limits) (entries : List Entry) (stock stock_after : Stock) (trace : Option Trace) (lacks : Type 0) → IsKitOf limits entries stock stock_after trace lacks → limits.trace ≡ false → trace ≡ None
none_told limits entries stock stock_after trace lacks (inl k) e = none_told_after (goes_alone limits stock) limits.trace entries (kit_of limits stock) stock_after trace k e
none_told limits entries stock stock_after trace lacks (inr left) e = left.0.untold

-- the kit that a search takes up, where plugins are asked, and where none is
pub kit_less : (limits : Limits) (lent : List (List ℕ)) (stock less : Stock) → limits.plain ≡ false → lent ≡ limits.off → less ≡ less_off lent stock → less ≡ kit_of limits stock
kit_less limits lent stock less p l e = e ∙ (ap (λ names. less_off names stock) l ∙ sym (ap (λ (plain : Bool). if plain then stock else less_off limits.off stock) p))

pub kit_plain : (limits : Limits) (stock : Stock) → limits.plain ≡ true → stock ≡ kit_of limits stock
kit_plain limits stock p = sym (ap (λ (plain : Bool). if plain then stock else less_off limits.off stock) p)

few_by : (plain : Bool) (names : List (List ℕ)) (stock : Stock) → IsFew stock → IsFew (if plain then stock else less_off names stock)
few_by true names stock few = few
few_by false names stock few = still_few names stock few

-- it has few plugins still
pub few_less : (limits : Limits) (stock less : Stock) → less ≡ kit_of limits stock → IsFew stock → IsFew less
few_less limits stock less e few = subst IsFew (sym e) (few_by limits.plain limits.off stock few)

-- without a search, the bound of the root is a right one
not_searched : (program : Program) (limits : Limits) (logs : List Log) (stock : Stock) (answer : Answer) → IsSolved program limits.nodes limits.gap [] [] (answer_of answer) → answer.trace ≡ None → Searched program limits logs logs stock stock answer
not_searched program limits logs stock answer r untold = record {
  entries = [];
  marks = [];
  right = record { start = r.start; root = r.root; right = r.right; shown = r.shown; taken = λ e. r.taken refl; met = λ e a. r.met refl refl };
  kit = inr (record { same = refl; untold = untold }, lacks answer.ended (r.taken refl refl));
  logged = inr (record { same = refl; no_entries = refl }, lacks answer.ended (r.taken refl refl));
  marked = inr (record { same = refl; no_marks = refl });
}

-- so it is where the logs and the kit are the same as before
pub not_searched_still : (program : Program) (limits : Limits) (old new : List Log) (stock stock_after : Stock) (answer : Answer) → new ≡ old → stock_after ≡ stock → IsSolved program limits.nodes limits.gap [] [] (answer_of answer) → answer.trace ≡ None → Searched program limits old new stock stock_after answer
not_searched_still program limits old new stock stock_after answer same kept r untold =
    subst (λ kit. Searched program limits old new stock kit answer) (sym kept)
    (subst (λ logs. Searched program limits old logs stock stock answer) (sym same) (not_searched program limits old stock answer r untold))

printed_kit : (rows : List (List ℕ)) (limits : Limits) (entries : List Entry) (stock stock_after : Stock) (trace : Option Trace) (ended : Ended) → IsKitOf limits entries stock stock_after trace (ended ≡ LacksMemory) → IsKitOf limits entries stock stock_after trace (status_of rows ended ≡ NoMemory)
printed_kit rows limits entries stock stock_after trace ended (inl k) = inl k
printed_kit rows limits entries stock stock_after trace ended (inr left) = inr (left.0, ap (status_of rows) left.1)

-- where room was taken for it, the log is pushed
pub room_for : {T E : Type 0} (r : Result T E) (n m : ℕ) → is_err r ≡ false → OnOk r (n + 1 ≤ m) → n < m
room_for (Ok x) n m e h = omega (arith, h)
room_for (Err x) n m e h = absurd (cc)

pub pushed_there : {A : Type 0} (old kept new : List A) (x : A) → kept ≡ old → new ≡ kept ++ x ∷ [] → new ≡ old ++ x ∷ []
pushed_there old kept new x k n = n ∙ ap (λ xs. xs ++ x ∷ []) k

-- a search with the kit that it takes up
pub searched_less : (program : Program) (limits : Limits) (old new : List Log) (log : Log) (stock less stock_after : Stock) (answer : Answer) → less ≡ kit_of limits stock → new ≡ old ++ log ∷ [] → IsSolvedBy program limits.nodes limits.gap limits.presolved (is_alone limits.plain less) (entries_of log) log.marks.items (answer_of answer) → IsKitAfter (is_alone limits.plain less) limits.trace (entries_of log) less stock_after answer.trace → Searched program limits old new stock stock_after answer
searched_less program limits old new log stock less stock_after answer l added r k = record {
  entries = entries_of log;
  marks = log.marks.items;
  right = subst (λ kit. IsSolvedBy program limits.nodes limits.gap limits.presolved (is_alone limits.plain kit) (entries_of log) log.marks.items (answer_of answer)) l r;
  logged = inl (record { log = log; added = added; entries_are = refl });
  marked = inl (record { log = log; added = added; marks_are = refl });
  kit = inl (subst (λ kit. IsKitAfter (is_alone limits.plain kit) limits.trace (entries_of log) kit stock_after answer.trace) l k);
}

-- an answer of a search fits the program
pub fits : (program : Program) (limits : Limits) (old new : List Log) (stock stock_after : Stock) (answer : Answer) → IsLimited program → Searched program limits old new stock stock_after answer → AnswerFits program answer
fits program limits old new stock stock_after answer l s = answer_fits program s.right.start limits.nodes limits.gap s.entries (numbers_of s.marks) answer l.well_formed s.right.right

printed_log : (rows : List (List ℕ)) (old new : List Log) (entries : List Entry) (ended : Ended) → AddsLog old new entries ⊎ (AddsNone old new entries × (ended ≡ LacksMemory)) → IsLogged old new entries (status_of rows ended)
printed_log rows old new entries ended (inl l) = inl l
printed_log rows old new entries ended (inr n) = inr (n.0, ap (status_of rows) n.1)

-- a search within the usual limits, where no plugin is off
pub searched_usual : (program : Program) (off : List (List ℕ)) (logs logs_after : List Log) (stock stock_after : Stock) (answer : Answer) → off ≡ [] → Searched program (record { nodes = usual_nodes; gap = None; presolved = true; plain = false; off = off; trace = false }) logs logs_after stock stock_after answer → Searched program usual_limits logs logs_after stock stock_after answer
searched_usual program off logs logs_after stock stock_after answer e s = subst (λ (names : List (List ℕ)). Searched program (record { nodes = usual_nodes; gap = None; presolved = true; plain = false; off = names; trace = false }) logs logs_after stock stock_after answer) e s

-- what a search has answered, with its figures told
pub works_of : (program : Program) (limits : Limits) (text_of : Telling) (old new : List Log) (stock stock_after : Stock) (answer : Answer) (sink sink_after : SinkTells) (result : ℕ) → IsLimited program → 0 < limits.nodes → Searched program limits old new stock stock_after answer → Says sink sink_after (text_of (figures_of program answer) (kept_lines answer.trace)) (exit_status (figures_of program answer).status) result → Works program limits text_of sink sink_after old new stock stock_after result
works_of program limits text_of old new stock stock_after answer sink sink_after result l some s told = record {
  answers = record {
    figures = figures_of program answer;
    box = root_value program;
    start = s.right.start;
    entries = s.entries;
    are_true = are_true program limits.nodes limits.gap limits.presolved (goes_alone limits stock) s.entries s.marks answer some l.well_formed s.right;
    lines = kept_lines answer.trace;
    told = told;
    untraced = λ e. ap kept_lines (none_told limits s.entries stock stock_after answer.trace (answer.ended ≡ LacksMemory) s.kit e);
    logged = printed_log program.row_names old new s.entries answer.ended s.logged;
    is_box = is_box_bound program;
    begins = record { whole = s.right.root.whole; plain = s.right.root.plain };
    within = s.right.right.within;
  };
  same_box = refl;
  marks = s.marks;
  marked = s.marked;
  found = answer_of answer;
  is_printed = sym (figures_same program answer);
  solved = s.right;
  same_start = refl;
  left = subst (TellsWhatIsLeft program s.right.start s.entries) (figures_same program answer) (left_of program s.right.start limits.nodes limits.gap s.entries (numbers_of s.marks) (answer_of answer) s.right.right s.right.shown);
  trace = answer.trace;
  lines_are = refl;
  kit = printed_kit program.row_names limits s.entries stock stock_after answer.trace answer.ended s.kit;
}
