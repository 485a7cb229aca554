-- A node goes on after a proposal was judged, or goes back where memory was refused.
use Rattle.std.proofs.Common.{◌≡◌, ◌≢◌, List, Option, None, Some, Result, Ok, Err, IfOk, refl, sym, ap, ◌∙◌, subst, ℕ, Bool, false}
use Rattle.std.specs.Prelude.{MatchResult, OnErr}
use Rattle.std.proofs.lemmas.Option.{same_Some}
use Rattle.cip_rational.specs.Rational.{ℚ}
use Rattle.cip_cert.specs.Lent.{multiples_of}
use Rattle.cip_cert.specs.declared.splits.SplitCut.{SplitCut}
use Rattle.cip_plugin.specs.declared.proposals.Cut.{Cut}
use Rattle.cip_plugin.specs.declared.proposals.Reduction.{Reduction}
use Rattle.cip_plugin.specs.declared.proposals.Split.{Split}
use Rattle.cip_plugin.specs.declared.proposals.Enforced.{Enforced}
use Rattle.cip_plugin.specs.declared.proposals.Enforced.TheVariants as said
use Rattle.cip_plugin.specs.declared.proposals.Proposal.{Proposal}
use Rattle.cip_plugin.specs.declared.proposals.Proposal.TheVariants as by
use Rattle.cip_tree.specs.Nodes.{TakenNode, region_of}
use Rattle.cip_core.specs.CoreStates.{CoreState, IsAtWork}
use Rattle.cip_core.specs.Later.{IsLaterAt}
use Rattle.cip_core.proofs.Relations.{later_at_itself}
use Rattle.cip_calls.specs.GuessesJudged.{IsGuessJudged, IsAfterGuess}
use Rattle.cip_calls.specs.ReductionsJudged.{reduction_answer, IsAfterReduction}
use Rattle.cip_calls.specs.ProposalsJudged.{IsCutBy, IsJudgedCut, IsJudgedSide, IsKeptWhole, IsSaid, IsJudged, IsShownEmpty, GoesOn, split_said, split_in}
use Rattle.cip_calls.specs.declared.judged.Judged.{Judged}
use Rattle.cip_calls.specs.declared.judged.Judged.TheVariants as judged
use Rattle.cip_calls.specs.declared.judged.JudgeFault.{JudgeFault}
use Rattle.cip_core.specs.Steps.{IsBack}

-- ---- cuts and points never show that a node is empty

cut_by : (old new : CoreState) (cut : Cut) (split : Option SplitCut) → IsCutBy old new cut split judged.Emptied → ⊥
cut_by old new cut None h = h
cut_by old new cut (Some split) h = h

pub cut_goes_on : (old new : CoreState) (node : TakenNode) (cut : Cut) (came : Judged) → IsLaterAt old node new node → new ≡ record old { pool = new.pool; touched = new.touched } → IsJudgedCut old new cut came → GoesOn old new node node came
cut_goes_on old new node cut came l frame h = record {
  later = l;
  region = λ other. ap (λ (k : CoreState). region_of k.tree node) frame;
  emptied = λ e. absurd (cut_by old new cut cut.split (subst (IsCutBy old new cut cut.split) e h));
}

guess_same : (old new : CoreState) (values : List ℚ) (came : Judged) → IsAfterGuess came old new values → came ≢ judged.Accepted → new ≡ old
guess_same old new values judged.Accepted h other = absurd (other refl)
guess_same old new values judged.Emptied h other = h
guess_same old new values judged.Known h other = h
guess_same old new values judged.NotBetter h other = h
guess_same old new values (judged.Refused fault) h other = h

pub guess_goes_on : (old new : CoreState) (node : TakenNode) (values point : List ℚ) (came : Judged) → IsLaterAt old node new node → IsGuessJudged old values came → IsAfterGuess came old new point → GoesOn old new node node came
guess_goes_on old new node values point came l h a = record {
  later = l;
  region = λ other. ap (λ (k : CoreState). region_of k.tree node) (guess_same old new point came a other);
  emptied = λ e. absurd (subst (IsGuessJudged old values) e h);
}

-- ---- a side that leaves no value does

side_same : (old new : CoreState) (had has : TakenNode) (told : Reduction) (came : Judged) → IsAfterReduction came old new had has told.col told.side told.value → came ≢ judged.Accepted → (new ≡ old) × (has ≡ had)
side_same old new had has told judged.Accepted h other = absurd (other refl)
side_same old new had has told judged.Emptied h other = h
side_same old new had has told judged.Known h other = h
side_same old new had has told judged.NotBetter h other = h
side_same old new had has told (judged.Refused fault) h other = h

same_region : (old new : CoreState) (had has : TakenNode) → (new ≡ old) × (has ≡ had) → region_of new.tree has ≡ region_of old.tree had
same_region old new had has (e, f) = ap (λ (k : CoreState). region_of k.tree has) e ∙ ap (region_of old.tree) f

pub side_goes_on : (old new : CoreState) (had has : TakenNode) (told : Reduction) (came : Judged) → IsLaterAt old had new has → (came ≡ judged.Emptied → IsShownEmpty old had) → IsAfterReduction came old new had has told.col told.side told.value → GoesOn old new had has came
side_goes_on old new had has told came l h a = record {
  later = l;
  region = λ other. same_region old new had has (side_same old new had has told came a other);
  emptied = λ e.
      let same : (new ≡ old) × (has ≡ had) = subst (λ j. IsAfterReduction j old new had has told.col told.side told.value) e a in
      subst (λ n. IsShownEmpty new n) (sym same.1) (subst (λ k. IsShownEmpty k had) (sym same.0) (h e));
}

-- ---- nothing has changed

pub same_goes_on : (core : CoreState) (node : TakenNode) (came : Judged) → IsAtWork core node → (came ≡ judged.Emptied → IsShownEmpty core node) → GoesOn core core node node came
same_goes_on core node came w h = record { later = later_at_itself core node w; region = λ other. refl; emptied = h }

-- ---- memory was refused

pub row_kept : (old new : CoreState) → new ≡ record old { pool = new.pool; touched = new.touched } → new.pool ≡ old.pool → new ≡ record old { touched = new.touched }
row_kept old new frame e = subst (λ p. new ≡ record old { pool = p; touched = new.touched }) e frame

pub same_kept : (old new : CoreState) → new ≡ old → new ≡ record old { touched = new.touched }
same_kept old new e = subst (λ (k : CoreState). k ≡ record old { touched = k.touched }) (sym e) refl

-- ---- what calls of a kind answer

pub side_result : {E : Type 0} (r : Result Judged E) (old new : CoreState) (had has : TakenNode) (told : Reduction) → IsLaterAt old had new has → MatchResult r (λ came. IsAfterReduction came old new had has told.col told.side told.value) (λ _. (new ≡ old) × (has ≡ had)) → IfOk r (λ came. came ≡ judged.Emptied → IsShownEmpty old had) → IfOk r (GoesOn old new had has)
side_result (Ok came) old new had has told l a e = side_goes_on old new had has told came l e a
side_result (Err error) old new had has told l a e = tt

pub side_judged : {E : Type 0} (r : Result Judged E) (old new : CoreState) (had has : TakenNode) (told : Reduction) → IfOk r (λ came. came ≡ reduction_answer old told.col told.side told.value (multiples_of told.combo)) → MatchResult r (λ came. IsAfterReduction came old new had has told.col told.side told.value) (λ _. (new ≡ old) × (has ≡ had)) → IfOk r (IsJudgedSide old new had has told)
side_judged (Ok came) old new had has told e a = record { answer = e; after = a }
side_judged (Err error) old new had has told e a = tt

pub side_err : {E : Type 0} (r : Result Judged E) (old new : CoreState) (had has : TakenNode) (told : Reduction) → MatchResult r (λ came. IsAfterReduction came old new had has told.col told.side told.value) (λ _. (new ≡ old) × (has ≡ had)) → OnErr r ((new ≡ record old { touched = new.touched }) × (has ≡ had))
side_err (Ok came) old new had has told a = tt
side_err (Err error) old new had has told a = (same_kept old new a.0, a.1)

pub cut_result : {E : Type 0} (r : Result Judged E) (old new : CoreState) (node : TakenNode) (cut : Cut) → IsLaterAt old node new node → new ≡ record old { pool = new.pool; touched = new.touched } → MatchResult r (IsJudgedCut old new cut) (λ _. new.pool ≡ old.pool) → IfOk r (GoesOn old new node node)
cut_result (Ok came) old new node cut l frame h = cut_goes_on old new node cut came l frame h
cut_result (Err error) old new node cut l frame h = tt

pub cut_judged : {E : Type 0} (r : Result Judged E) (old new : CoreState) (node : TakenNode) (cut : Cut) → MatchResult r (IsJudgedCut old new cut) (λ _. new.pool ≡ old.pool) → IfOk r (λ came. (node ≡ node) × IsJudgedCut old new cut came)
cut_judged (Ok came) old new node cut h = (refl, h)
cut_judged (Err error) old new node cut h = tt

pub cut_err : {E : Type 0} (r : Result Judged E) (old new : CoreState) (node : TakenNode) (cut : Cut) → new ≡ record old { pool = new.pool; touched = new.touched } → MatchResult r (IsJudgedCut old new cut) (λ _. new.pool ≡ old.pool) → OnErr r ((new ≡ record old { touched = new.touched }) × (node ≡ node))
cut_err (Ok came) old new node cut frame h = tt
cut_err (Err error) old new node cut frame h = (row_kept old new frame h, refl)

pub guess_result : {E : Type 0} (r : Result Judged E) (old new : CoreState) (node : TakenNode) (values point : List ℚ) → IsLaterAt old node new node → IfOk r (IsGuessJudged old values) → MatchResult r (λ came. IsAfterGuess came old new point) (λ _. new ≡ old) → IfOk r (GoesOn old new node node)
guess_result (Ok came) old new node values point l h a = guess_goes_on old new node values point came l h a
guess_result (Err error) old new node values point l h a = tt

pub guess_judged : {E : Type 0} (r : Result Judged E) (old new : CoreState) (node : TakenNode) (values point : List ℚ) → IfOk r (IsGuessJudged old values) → MatchResult r (λ came. IsAfterGuess came old new point) (λ _. new ≡ old) → IfOk r (λ came. (node ≡ node) × IsGuessJudged old values came × IsAfterGuess came old new point)
guess_judged (Ok came) old new node values point h a = (refl, h, a)
guess_judged (Err error) old new node values point h a = tt

pub guess_err : {E : Type 0} (r : Result Judged E) (old new : CoreState) (node : TakenNode) (point : List ℚ) → MatchResult r (λ came. IsAfterGuess came old new point) (λ _. new ≡ old) → OnErr r ((new ≡ record old { touched = new.touched }) × (node ≡ node))
guess_err (Ok came) old new node point a = tt
guess_err (Err error) old new node point a = (same_kept old new a, refl)

-- ---- what a handler says of a point

accepted_shows : judged.Accepted ≡ judged.Emptied → ⊥
accepted_shows e = cc

refused_shows : (fault : JudgeFault) → judged.Refused fault ≡ judged.Emptied → ⊥
refused_shows fault e = cc

pub word_goes_on : (core : CoreState) (node : TakenNode) → IsAtWork core node → GoesOn core core node node judged.Accepted
word_goes_on core node w = same_goes_on core node judged.Accepted w (λ e. absurd (accepted_shows e))

-- ---- a split that is refused

pub whole_goes_on : (core new : CoreState) (node has : TakenNode) (fault : JudgeFault) → new ≡ core → has ≡ node → IsAtWork core node → GoesOn core new node has (judged.Refused fault)
whole_goes_on core new node has fault e f w =
    subst (λ n. GoesOn core new node n (judged.Refused fault)) (sym f)
    (subst (λ k. GoesOn core k node node (judged.Refused fault)) (sym e)
    (same_goes_on core node (judged.Refused fault) w (λ t. absurd (refused_shows fault t))))

whole_said : (core new : CoreState) (node has : TakenNode) (words : Enforced) (split : Split) (fault : JudgeFault) → split_said words ≡ Some split → IsKeptWhole core new node has split (judged.Refused fault) → IsSaid core new node has words (judged.Refused fault)
whole_said core new node has (said.Branched own) split fault e h = subst (λ s. IsKeptWhole core new node has s (judged.Refused fault)) (sym (same_Some own split e)) h
whole_said core new node has (said.Cutoff combo) split fault e h = cc
whole_said core new node has (said.Reduced told) split fault e h = cc
whole_said core new node has (said.Separated cut) split fault e h = cc
whole_said core new node has said.Infeasible split fault e h = cc
whole_said core new node has said.Feasible split fault e h = cc

pub whole_judged : (core new : CoreState) (node has : TakenNode) (proposal : Proposal) (split : Split) (fault : JudgeFault) → split_in proposal ≡ Some split → IsKeptWhole core new node has split (judged.Refused fault) → IsJudged core new node has proposal (judged.Refused fault)
whole_judged core new node has (by.Split own) split fault e h = subst (λ s. IsKeptWhole core new node has s (judged.Refused fault)) (sym (same_Some own split e)) h
whole_judged core new node has (by.Enforcement words) split fault e h = whole_said core new node has words split fault e h
whole_judged core new node has (by.Cut cut) split fault e h = cc
whole_judged core new node has (by.Reduction told) split fault e h = cc
whole_judged core new node has (by.Guess guess) split fault e h = cc

-- a node is open again as it would be had nothing been touched
pub back_touched : (core new : CoreState) (touched : Bool) (number : ℕ) (bound : Option ℚ) → (touched ≡ false → core.touched ≡ false) → IsBack (record core { touched = touched }) new number bound → IsBack core new number bound
back_touched core new touched number bound u b = record {
  kept = b.kept;
  log = b.log;
  parked = b.parked;
  ids = b.ids;
  later = record {
    program = b.later.program;
    reduced = b.later.reduced;
    steps = b.later.steps;
    root = b.later.root;
    integral = b.later.integral;
    ids = b.later.ids;
    no_dearer = b.later.no_dearer;
    untouched = λ e. u (b.later.untouched e);
  };
  open_ = b.open_;
}
