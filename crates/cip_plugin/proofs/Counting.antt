-- What a delivery has left to do: two for each plugin on the shelf, one for each live one, and one for each event. A
-- step and the event that it raises leave it as it is.
use Rattle.std.proofs.Common.{◌≡◌, ℕ, ◌+◌, ◌*◌, List, [], ◌∷◌, ◌++◌, length, None, Some, Bool, true, false, cond, count_by, set, sym, ◌∙◌, ap, refl, arith, length-append}
use Rattle.std.specs.Prelude.{slice_get, is_some, not, ◌&&◌}
use Rattle.cip_events.specs.declared.events.Event.{Event}
use Rattle.cip_events.specs.declared.events.EventKind.TheVariants.{PluginIncluded, PluginFreed}
use Rattle.cip_events.specs.Events.{event_at}
use Rattle.cip_plugin.proofs.Onward.{call_keeps, ask_keeps, ask_stands, turned_to}
use Rattle.std.proofs.lemmas.Option.{slice_get_within, get_or_from_slice_get, cond_some}
use Rattle.std.proofs.lemmas.List.Sums.{sum_by-set, sum_by_push}
use Rattle.cip_plugin.specs.declared.kinds.Kind.{Kind}
use Rattle.cip_plugin.specs.Calls.{Call, Init, InitSolve, Asked, ExitSolve, Exit}
use Rattle.cip_plugin.specs.declared.stages.Stage.TheVariants.{Fresh, Begun, Playing, Left, Gone}
use Rattle.cip_plugin.specs.Seats.{Standing, Seat, State, is_live, is_alive, is_playing, live_count, held_count}
use Rattle.cip_plugin.specs.Lives.{turn, word_of}
use Rattle.cip_plugin.specs.Steps.{Step, Calls, Notes, Turns, Ranks, Takes, Steps, Runs, Sat, IsCalled, IsTurned, is_note}
use Rattle.cip_plugin.specs.Wishing.{raised_in}

-- a count behind a change of one element
pub count_set : {A : Type 0} (test : A → Bool) (xs : List A) (i : ℕ) (x y : A) → slice_get xs i ≡ Some x
    → count_by test (set xs i y) + cond (test x) 1 0 ≡ count_by test xs + cond (test y) 1 0
count_set test xs i x y at =
    let within = slice_get_within xs i x at in
    let is = get_or_from_slice_get xs i x x at in
    rw is at (sum_by-set (λ z. cond (test z) 1 0) xs i y x within)

-- a count behind one element more
pub count_pushed : {A : Type 0} (test : A → Bool) (xs : List A) (y : A)
    → count_by test (xs ++ y ∷ []) ≡ count_by test xs + cond (test y) 1 0
count_pushed test xs y = sum_by_push (λ z. cond (test z) 1 0) xs y

-- the last call of a life
abbrev pub is_last : Call → Bool
is_last Exit = true
is_last call = false

-- a call leaves a plugin alive, but the last one
pub call_lives : (kind : Kind) (now : Standing) (call : Call) (later : Standing)
    → turn kind now (word_of call) ≡ Some later → is_alive later.stage ≡ not (is_last call)
call_lives kind now (Init was) later turned = ap is_alive (turned_to Fresh Begun now later turned)
call_lives kind now (InitSolve was) later turned = ap is_alive (turned_to Begun Playing now later turned)
call_lives kind now ExitSolve later turned = ap is_alive (turned_to Playing Left now later turned)
call_lives kind now Exit later turned = ap is_alive (turned_to Left Gone now later turned)
call_lives kind now (Asked ask given) later turned =
    ap (λ (s : Standing). is_alive s.stage) (sym (ask_stands kind now ask later turned))
    ∙ (ask_keeps kind now ask later turned).1

-- what a delivery has left to do, but for the events
abbrev pub left_over : State → ℕ
left_over state = 2 * held_count state.places + live_count state.seats

-- how many live plugins there are behind a call
pub live_behind : (a b : State) (id : ℕ) (call : Call) → Sat id (IsCalled call) a.seats b.seats
    → live_count b.seats + 1 ≡ live_count a.seats + cond (not (is_last call)) 1 0
live_behind a b id call sat =
    let counted = count_set is_live a.seats id sat.old sat.new sat.was in
    let was : is_live sat.old ≡ true =
    (call_keeps sat.old.who.kind sat.old.standing call sat.new.standing sat.how.turn).1 in
    let now : is_live sat.new ≡ not (is_last call) =
    call_lives sat.old.who.kind sat.old.standing call sat.new.standing sat.how.turn in
    rw sat.is (ap (λ (b : Bool). count_by is_live (set a.seats id sat.new) + cond b 1 0) (sym was)
    ∙ counted ∙ ap (λ (b : Bool). live_count a.seats + cond b 1 0) now)

-- how many there are behind a change that ends none
pub live_same : (How : Seat → Seat → Type 0) (a b : State) (id : ℕ) → Sat id How a.seats b.seats
    → ((s t : Seat) → How s t → is_live t ≡ is_live s) → live_count b.seats ≡ live_count a.seats
live_same How a b id sat same =
    let counted = count_set is_live a.seats id sat.old sat.new sat.was in
    let alike = ap (λ (b : Bool). live_count a.seats + cond b 1 0) (same sat.old sat.new sat.how) in
    let all : count_by is_live (set a.seats id sat.new) + cond (is_live sat.old) 1 0
    ≡ live_count a.seats + cond (is_live sat.old) 1 0 = counted ∙ alike in
    rw sat.is (omega arith)

-- being disabled or enabled ends none
pub turned_live : (on : Bool) (s t : Seat) → IsTurned on s t → is_live t ≡ is_live s
turned_live true s t turned =
    ap (λ (x : Standing). is_alive x.stage) (sym (cond_some (is_playing s.standing.stage && not s.standing.on)
    (record s.standing { on = true }) t.standing turned.turn).1)
turned_live false s t turned =
    ap (λ (x : Standing). is_alive x.stage) (sym (cond_some (is_playing s.standing.stage && s.standing.on)
    (record s.standing { on = false }) t.standing turned.turn).1)

-- a step and the event that it raises leave what there is to do as it is
pub step_measure : (node : ℕ) (step : Step) (a b : State) → Steps step a b
    → left_over b + length (raised_in node (step ∷ [])) ≡ left_over a
step_measure node (Calls id (Init was)) a b step =
    let live = live_behind a b id (Init was) step.moves.0 in
    let held = ap held_count step.moves.1 in omega arith
step_measure node (Calls id (InitSolve was)) a b step =
    let live = live_behind a b id (InitSolve was) step.moves.0 in
    let held = ap held_count step.moves.1 in omega arith
step_measure node (Calls id (Asked ask given)) a b step =
    let live = live_behind a b id (Asked ask given) step.moves.0 in
    let held = ap held_count step.moves.1 in omega arith
step_measure node (Calls id ExitSolve) a b step =
    let live = live_behind a b id ExitSolve step.moves.0 in
    let held = ap held_count step.moves.1 in omega arith
step_measure node (Calls id Exit) a b step =
    let live = live_behind a b id Exit step.moves.0 in
    let held = ap held_count step.moves.1 in omega arith
step_measure node (Notes id word) a b step =
    let live = live_same (λ s t. (t ≡ s) × (is_note word ≡ true)) a b id step.moves.0
    (λ s t how. ap is_live how.0) in
    let held = ap held_count step.moves.1 in omega arith
step_measure node (Turns id on) a b step =
    let live = live_same (IsTurned on) a b id step.moves.0 (λ s t how. turned_live on s t how) in
    let held = ap held_count step.moves.1 in omega arith
step_measure node (Ranks id priority) a b step =
    let live = live_same (λ s t. t ≡ record s { priority = priority }) a b id step.moves.0
    (λ s t how. ap is_live how) in
    let held = ap held_count step.moves.1 in omega arith
step_measure node (Takes place) a b step =
    let taken = step.moves in
    let held = ap held_count taken.place_now in
    let fewer = count_set is_some a.places place (Some taken.who) None taken.was in
    let live = ap live_count taken.seats in
    let more = count_pushed is_live a.seats taken.seat in
    let fresh : is_live taken.seat ≡ true = ap (λ (s : Standing). is_alive s.stage) taken.seated.standing in
    let one : cond {A = ℕ} (is_live taken.seat) 1 0 ≡ 1 = ap (λ (b : Bool). cond b 1 0) fresh in
    omega arith

-- the events of some steps and others
pub raised_in-append : (node : ℕ) (xs ys : List Step)
    → raised_in node (xs ++ ys) ≡ raised_in node xs ++ raised_in node ys
raised_in-append node [] ys = refl
raised_in-append node (Calls id (Init was) ∷ xs) ys = raised_in-append node xs ys
raised_in-append node (Calls id (InitSolve was) ∷ xs) ys = raised_in-append node xs ys
raised_in-append node (Calls id (Asked ask given) ∷ xs) ys = raised_in-append node xs ys
raised_in-append node (Calls id ExitSolve ∷ xs) ys = raised_in-append node xs ys
raised_in-append node (Calls id Exit ∷ xs) ys =
    ap (λ (events : List Event). event_at node PluginFreed ∷ events) (raised_in-append node xs ys)
raised_in-append node (Notes id word ∷ xs) ys = raised_in-append node xs ys
raised_in-append node (Turns id on ∷ xs) ys = raised_in-append node xs ys
raised_in-append node (Ranks id priority ∷ xs) ys = raised_in-append node xs ys
raised_in-append node (Takes place ∷ xs) ys =
    ap (λ (events : List Event). event_at node PluginIncluded ∷ events) (raised_in-append node xs ys)

-- a run and the events that it raises leave what there is to do as it is
pub run_measure : (node : ℕ) (steps : List Step) (a b : State) → Runs a steps b
    → left_over b + length (raised_in node steps) ≡ left_over a
run_measure node [] a b run = let same = ap left_over run in omega arith
run_measure node (step ∷ steps) a b run =
    let first = step_measure node step a run.0 run.1 in
    let second = run_measure node steps run.0 b run.2 in
    let split = ap length (raised_in-append node (step ∷ []) steps) in
    let sum = length-append (raised_in node (step ∷ [])) (raised_in node steps) in
    omega arith
