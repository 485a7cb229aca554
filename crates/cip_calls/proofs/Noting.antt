-- Notes and judged proposals, one after the other.
use Rattle.std.proofs.Common.{◌≡◌, ℕ, ◌+◌, ◌<◌, List, [], ◌∷◌, ◌++◌, length, take, get_or, replicate, set, IsSome, sym, ◌∙◌, ap, subst, refl, append_assoc, append-nil, ◌≤◌, arith}
use Rattle.std.specs.Prelude.{slice_get, Result, Ok, Err, OnOk, OnErr}
use Rattle.std.proofs.lemmas.List.{replicate_more, map-append, take_more}
use Rattle.cip_events.specs.declared.words.Word.{Word}
use Rattle.cip_plugin.specs.Asking.{answer_of}
use Rattle.cip_plugin.specs.Calls.{Ask, Answer}
use Rattle.cip_plugin.specs.declared.asking.Given.{Given}
use Rattle.cip_problem.specs.Program.{Program}
use Rattle.cip_problem.specs.WellFormed.{columns}
use Rattle.cip_plugin.specs.Seats.{Seat, State}
use Rattle.cip_plugin.specs.Steps.{Notes, Runs, calls_of}
use Rattle.cip_plugin.proofs.Lists.{set_self}
use Rattle.cip_plugin.proofs.Running.{calls_of-append, Runs-append}
use Rattle.cip_roster.specs.KeptRankings.{Room}
use Rattle.cip_roster.specs.Turns.{IsSound}
use Rattle.cip_roster.specs.Wished.{Ran}
use Rattle.cip_roster.proofs.Turning.{seat_stays}
use Rattle.cip_tree.specs.Nodes.{TakenNode}
use Rattle.cip_calls.specs.CoreStates.{CoreState, reduced_of}
use Rattle.cip_calls.specs.Later.{IsLaterAt}
use Rattle.cip_core.proofs.Relations.{later_at_itself, later_at_further}
use Rattle.cip_calls.specs.ProposalsJudged.{HaveRoom}
use Rattle.cip_calls.specs.declared.judged.Judged.{Judged}
use Rattle.cip_calls.specs.declared.scratches.Scratches.{Scratches}
use Rattle.cip_calls.specs.Served.{count_for}
use Rattle.cip_calls.specs.Asked.{told, proposers}
use Rattle.cip_calls.proofs.Asking.{proposers-append}
use Rattle.cip_calls.proofs.Pools.{more_none, more_further}
use Rattle.cip_calls.specs.Noted.{IsReady, HasMoreRows, HasNoted, HasGone, HasCome, makers, HasJudged}

pub noted_none : (a : State) → HasNoted a a
noted_none a = record { steps = []; run = refl; silent = λ id. refl; seats = refl }

pub noted_same : (a b : State) → b ≡ a → HasNoted a b
noted_same a b e = subst (HasNoted a) (sym e) (noted_none a)

-- a note leaves the seats
note_seats : (a b : State) (id : ℕ) (word : Word) → Runs a (Notes id word ∷ []) b → b.seats ≡ a.seats
note_seats a b id word run =
    let sat = run.1.moves.0 in
    ap (λ (s : State). s.seats) run.2 ∙ sat.is ∙ ap (λ (x : Seat). set a.seats id x) sat.how.0 ∙ set_self a.seats id sat.old sat.was

pub noted_once : (a b : State) (id : ℕ) (word : Word) → Runs a (Notes id word ∷ []) b → HasNoted a b
noted_once a b id word run = record { steps = Notes id word ∷ []; run = run; silent = λ k. refl; seats = note_seats a b id word run }

-- a note, if there was memory for it
pub noted_by : {A E : Type 0} (r : Result A E) (a b : State) (id : ℕ) (word : Word) → OnOk r (Runs a (Notes id word ∷ []) b) → OnErr r (b ≡ a) → HasNoted a b
noted_by (Ok x) a b id word run same = noted_once a b id word run
noted_by (Err e) a b id word run same = noted_same a b same

pub noted_further : (a b c : State) → HasNoted a b → HasNoted b c → HasNoted a c
noted_further a b c first second = record {
  steps = first.steps ++ second.steps;
  run = Runs-append first.steps second.steps a b c first.run second.run;
  silent = λ id. calls_of-append id first.steps second.steps ∙ ap (λ l. l ++ calls_of id second.steps) (first.silent id) ∙ second.silent id;
  seats = second.seats ∙ first.seats;
}

pub noted_run : (a b : State) → HasNoted a b → Ran a b
noted_run a b noted = record { steps = noted.steps; run = noted.run }

pub run_further : (a b c : State) → Ran a b → Ran b c → Ran a c
run_further a b c first second = record {
  steps = first.steps ++ second.steps;
  run = Runs-append first.steps second.steps a b c first.run second.run;
}

pub seat_noted : (a b : State) (id : ℕ) → HasNoted a b → IsSome (slice_get a.seats id) → IsSome (slice_get b.seats id)
seat_noted a b id noted is = seat_stays a b id noted.steps noted.run is

-- one proposal more of a plugin
pub judged_more : (id n : ℕ) (a b c : List (ℕ × Judged)) → HasJudged id n a b → HasJudged id 1 b c → HasJudged id (n + 1) a c
judged_more id n a b c first second =
    second ∙ ap (λ (l : List ℕ). l ++ replicate 1 id) first ∙ append_assoc (makers a) (replicate n id) (replicate 1 id)
    ∙ ap (λ (l : List ℕ). makers a ++ l) (replicate_more n id)

pub judged_entry : (id : ℕ) (came : Judged) (had has : List (ℕ × Judged)) → has ≡ had ++ (id, came) ∷ [] → HasJudged id 1 had has
judged_entry id came had has e = ap makers e ∙ map-append (λ (entry : ℕ × Judged). entry.0) had ((id, came) ∷ [])

-- one entry more of what was given
pub all_more : (ask : Ask) (gave : List (ℕ × Given)) (i : ℕ) (item : ℕ × Given) (had mid has : List (ℕ × Judged)) → i < length gave → item ≡ get_or gave i item → makers mid ≡ makers had ++ proposers ask (told (take i gave)) → HasJudged item.0 (count_for ask (answer_of item.1)) mid has → makers has ≡ makers had ++ proposers ask (told (take (i + 1) gave))
all_more ask gave i item had mid has within is first second =
    let tell : (ℕ × Given) → ℕ × Answer = λ entry. (entry.0, answer_of entry.1) in
    let own : List ℕ = replicate (count_for ask (answer_of item.1)) item.0 in
    let taken : take (i + 1) gave ≡ take i gave ++ item ∷ [] = take_more gave i item within ∙ ap (λ (x : ℕ × Given). take i gave ++ x ∷ []) (sym is) in
    let said : told (take (i + 1) gave) ≡ told (take i gave) ++ tell item ∷ [] = ap told taken ∙ map-append tell (take i gave) (item ∷ []) in
    let made : proposers ask (told (take (i + 1) gave)) ≡ proposers ask (told (take i gave)) ++ own =
    ap (proposers ask) said ∙ proposers-append ask (told (take i gave)) (tell item ∷ [])
    ∙ ap (λ (l : List ℕ). proposers ask (told (take i gave)) ++ l) (append-nil own) in
    second ∙ ap (λ (l : List ℕ). l ++ own) first ∙ append_assoc (makers had) (proposers ask (told (take i gave))) own
    ∙ ap (λ (l : List ℕ). makers had ++ l) (sym made)

pub judged_none : (id : ℕ) (a : List (ℕ × Judged)) → HasJudged id 0 a a
judged_none id a = sym (append-nil (makers a))

-- a node that is in work still, with scratches of the same size
pub ready_later : (old new : CoreState) (had has : TakenNode) (scratches : Scratches) → IsLaterAt old had new has
    → HaveRoom scratches (columns (reduced_of old)) → IsReady new has scratches
ready_later old new had has scratches l room = record {
  at_work = l.at_work;
  room = subst (λ (p : Program). HaveRoom scratches (columns p)) (sym l.later.reduced) room;
}

-- ---- steps of a node in work

pub gone_none : (core : CoreState) (node : TakenNode) (a : State) (room : Room) (scratches : Scratches) → IsReady core node scratches → IsSound a room → HasGone core node a core node scratches a room
gone_none core node a room scratches ready sound = record {
  later = later_at_itself core node ready.at_work;
  ready = ready;
  sound = sound;
  rows = more_none core.pool;
  noted = noted_none a;
}

pub gone_by : (old new : CoreState) (had has : TakenNode) (a b : State) (room : Room) (scratches : Scratches) → IsLaterAt old had new has → HaveRoom scratches (columns (reduced_of old)) → IsSound b room → HasMoreRows old.pool new.pool → HasNoted a b → HasGone old had a new has scratches b room
gone_by old new had has a b room scratches l r sound rows noted = record {
  later = l;
  ready = ready_later old new had has scratches l r;
  sound = sound;
  rows = rows;
  noted = noted;
}

pub gone_further : (old mid new : CoreState) (had node has : TakenNode) (a b c : State) (some room : Room) (first scratches : Scratches) → HasGone old had a mid node first b some → HasGone mid node b new has scratches c room → HasGone old had a new has scratches c room
gone_further old mid new had node has a b c some room first scratches h k = record {
  later = later_at_further old mid new had node has h.later k.later;
  ready = k.ready;
  sound = k.sound;
  rows = more_further old.pool mid.pool new.pool h.rows k.rows;
  noted = noted_further a b c h.noted k.noted;
}

pub come_further : (old mid new : CoreState) (had node has : TakenNode) (a b c : State) (some room : Room) (first scratches : Scratches) → HasCome old had a mid node first b some → HasCome mid node b new has scratches c room → HasCome old had a new has scratches c room
come_further old mid new had node has a b c some room first scratches h k = record {
  later = later_at_further old mid new had node has h.later k.later;
  ready = k.ready;
  sound = k.sound;
  rows = more_further old.pool mid.pool new.pool h.rows k.rows;
  run = run_further a b c h.run k.run;
}

-- calls alone leave the core as it is
pub come_called : (core : CoreState) (node : TakenNode) (a b : State) (room : Room) (scratches : Scratches) → IsReady core node scratches → IsSound b room → Ran a b → HasCome core node a core node scratches b room
come_called core node a b room scratches ready sound run = record {
  later = later_at_itself core node ready.at_work;
  ready = ready;
  sound = sound;
  rows = more_none core.pool;
  run = run;
}

-- calls, and then steps that call nobody
pub come_gone : (old new : CoreState) (had has : TakenNode) (a b c : State) (room : Room) (scratches : Scratches) → Ran a b → HasGone old had b new has scratches c room → HasCome old had a new has scratches c room
come_gone old new had has a b c room scratches run gone = record {
  later = gone.later;
  ready = gone.ready;
  sound = gone.sound;
  rows = gone.rows;
  run = run_further a b c run (noted_run b c gone.noted);
}

-- all of a list was judged
pub judged_all : (id count all : ℕ) (had has : List (ℕ × Judged)) → all ≤ count → count ≤ all → HasJudged id count had has → HasJudged id all had has
judged_all id count all had has l m j = subst (λ n. HasJudged id n had has) (omega (arith, l, m)) j
