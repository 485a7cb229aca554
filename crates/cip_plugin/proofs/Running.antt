-- Runs of steps, one after the other; what each plugin tells behind them, and that lives stay told.
use Rattle.std.proofs.Common.{◌≡◌, ℕ, List, [], ◌∷◌, ◌++◌, Some, true, false, eqb, cond, sym, ◌∙◌, ap, subst, refl, ⊎_elim}
use Rattle.std.specs.Prelude.{slice_get}
use Rattle.std.proofs.lemmas.Bool.{cases_eq, eq-eqb, ne_eqb, false≢true}
use Rattle.std.proofs.lemmas.Option.{same_Some}
use Rattle.std.proofs.lemmas.List.{append-nil}
use Rattle.cip_plugin.specs.Calls.{Call}
use Rattle.cip_plugin.specs.Telling.{Heard}
use Rattle.cip_plugin.specs.Seats.{Standing, Seat, State, is_live}
use Rattle.cip_plugin.specs.Lives.{turn, word_of, LivesAreTold}
use Rattle.cip_plugin.specs.Steps.{Step, Calls, Notes, Turns, Ranks, Takes, Steps, Runs, Sat, IsCalled, IsTurned, switch_word, is_note, calls_of}
use Rattle.cip_events.specs.declared.words.Word.{Word}
use Rattle.cip_events.specs.declared.words.Word.TheVariants as say
use Rattle.cip_plugin.specs.declared.kinds.Kind.{Kind}
use Rattle.cip_plugin.proofs.Lists.{get_set_same, get_set_other, get_front}
use Rattle.cip_plugin.proofs.Living.{written, unwritten, seated}
use Rattle.cip_plugin.proofs.Telling.{Heard_append, Heard_none}
use Rattle.cip_plugin.proofs.Onward.{Later, Later-refl, Later-trans, Later-called, Later-turned, Later-ranked, call_keeps}

-- two runs are one
pub Runs-append : (xs ys : List Step) (a b c : State) → Runs a xs b → Runs b ys c → Runs a (xs ++ ys) c
Runs-append [] ys a b c first second = subst (λ (s : State). Runs s ys c) first second
Runs-append (x ∷ xs) ys a b c first second =
    (first.0, first.1, Runs-append xs ys first.0 b c first.2 second)

-- the calls of a plugin among some steps and others
pub calls_of-append : (id : ℕ) (xs ys : List Step) → calls_of id (xs ++ ys) ≡ calls_of id xs ++ calls_of id ys
calls_of-append id [] ys = refl
calls_of-append id (Calls k call ∷ xs) ys =
    elim (eqb k id) as (λ b. cond b (call ∷ calls_of id (xs ++ ys)) (calls_of id (xs ++ ys))
    ≡ cond b (call ∷ calls_of id xs) (calls_of id xs) ++ calls_of id ys) [
      | true ↦ ap (λ (w : List Call). call ∷ w) (calls_of-append id xs ys)
      | false ↦ calls_of-append id xs ys
    ]
calls_of-append id (Notes k word ∷ xs) ys = calls_of-append id xs ys
calls_of-append id (Turns k on ∷ xs) ys = calls_of-append id xs ys
calls_of-append id (Ranks k priority ∷ xs) ys = calls_of-append id xs ys
calls_of-append id (Takes place ∷ xs) ys = calls_of-append id xs ys

-- a plugin behind some calls: it has its seat still, tells them, and its seat went on
pub record Follows (s : Seat) (calls : List Call) (seats : List Seat) (id : ℕ) : Type 0 where
  pub now : Seat
  pub at : slice_get seats id ≡ Some now
  pub heard : Heard s.who.told calls now.who.told
  pub later : Later s now

-- one seat changed, and not this one
pub elsewhere : (How : Seat → Seat → Type 0) (k id : ℕ) (xs ys : List Seat) (s : Seat) → Sat k How xs ys
    → slice_get xs id ≡ Some s → (id ≡ k → ⊥) → Follows s [] ys id
elsewhere How k id xs ys s sat at differ = record {
  now = s;
  at = rw sat.is (get_set_other xs k id sat.new differ ∙ at);
  heard = Heard_none s.who.told;
  later = Later-refl s;
}

-- this seat changed, and tells so
pub here : (How : Seat → Seat → Type 0) (k id : ℕ) (xs ys : List Seat) (s : Seat) (calls : List Call)
    → Sat k How xs ys → slice_get xs id ≡ Some s → id ≡ k
    → ((x y : Seat) → How x y → Heard x.who.told calls y.who.told × Later x y)
    → Follows s calls ys id
here How k id xs ys s calls sat at same means =
    let old : s ≡ sat.old = same_Some s sat.old (sym at ∙ rw same sat.was) in
    let what = means sat.old sat.new sat.how in
    record {
      now = sat.new;
      at = rw (same, sat.is) (get_set_same xs k sat.old sat.new sat.was);
      heard = rw old what.0;
      later = rw old what.1;
    }

-- a change that calls nobody
pub quiet : (How : Seat → Seat → Type 0) (k id : ℕ) (xs ys : List Seat) (s : Seat) → Sat k How xs ys
    → slice_get xs id ≡ Some s → ((x y : Seat) → How x y → (y.who ≡ x.who) × Later x y) → Follows s [] ys id
quiet How k id xs ys s sat at keeps =
    ⊎_elim
    (λ (same : id ≡ k). here How k id xs ys s [] sat at same
    (λ x y how. let what = keeps x y how in (rw what.0 (Heard_none x.who.told), what.1)))
    (λ (differ : id ≡ k → ⊥). elsewhere How k id xs ys s sat at differ)
    (cases_eq id k)

-- one step
pub step_follows : (step : Step) (a b : State) (id : ℕ) (s : Seat) → Steps step a b → slice_get a.seats id ≡ Some s
    → Follows s (calls_of id (step ∷ [])) b.seats id
step_follows (Calls k call) a b id s step at =
    ⊎_elim
    (λ (same : id ≡ k).
    rw (eq-eqb k id (sym same)) (here (IsCalled call) k id a.seats b.seats s (call ∷ []) step.moves.0 at same
    (λ x y how. (how.heard, Later-called call x y how))))
    (λ (differ : id ≡ k → ⊥).
    rw (ne_eqb k id (λ same. differ (sym same)))
    (elsewhere (IsCalled call) k id a.seats b.seats s step.moves.0 at differ))
    (cases_eq id k)
step_follows (Notes k word) a b id s step at =
    quiet (λ x y. (y ≡ x) × (is_note word ≡ true)) k id a.seats b.seats s step.moves.0 at
    (λ x y how. (ap (λ (seat : Seat). seat.who) how.0, rw how.0 (Later-refl x)))
step_follows (Turns k on) a b id s step at =
    quiet (IsTurned on) k id a.seats b.seats s step.moves.0 at
    (λ x y how. (ap (λ (seat : Seat). seat.who) how.same, Later-turned on x y how))
step_follows (Ranks k priority) a b id s step at =
    quiet (λ x y. y ≡ record x { priority = priority }) k id a.seats b.seats s step.moves.0 at
    (λ x y how. (ap (λ (seat : Seat). seat.who) how, Later-ranked priority x y how))
step_follows (Takes place) a b id s step at = record {
  now = s;
  at = rw step.moves.seats (get_front a.seats (step.moves.seat ∷ []) id s at);
  heard = Heard_none s.who.told;
  later = Later-refl s;
}

-- a run: each plugin tells exactly its calls among the steps
pub run_follows : (steps : List Step) (a b : State) (id : ℕ) (s : Seat) → Runs a steps b
    → slice_get a.seats id ≡ Some s → Follows s (calls_of id steps) b.seats id
run_follows [] a b id s run at = record {
  now = s;
  at = rw run at;
  heard = Heard_none s.who.told;
  later = Later-refl s;
}
run_follows (step ∷ steps) a b id s run at =
    let first = step_follows step a run.0 id s run.1 at in
    let second = run_follows steps run.0 b id first.now run.2 first.at in
    record {
      now = second.now;
      at = second.at;
      heard = rw (calls_of-append id (step ∷ []) steps)
          (Heard_append s.who.told (calls_of id (step ∷ [])) (calls_of id steps) first.now.who.told
          second.now.who.told first.heard second.heard);
      later = Later-trans s first.now second.now first.later second.later;
    }

-- a note changes no life
pub note_turns : (kind : Kind) (now : Standing) (word : Word) → is_note word ≡ true → turn kind now word ≡ Some now
note_turns kind now say.NoMemory is = refl
note_turns kind now (say.Dropped count) is = refl
note_turns kind now (say.Refused fault) is = refl
note_turns kind now say.Init is = cc
note_turns kind now say.InitSolve is = cc
note_turns kind now say.Separate is = cc
note_turns kind now say.Propagate is = cc
note_turns kind now say.Price is = cc
note_turns kind now say.Search is = cc
note_turns kind now say.Branch is = cc
note_turns kind now say.Enforce is = cc
note_turns kind now say.OnEvent is = cc
note_turns kind now say.ExitSolve is = cc
note_turns kind now say.Exit is = cc
note_turns kind now say.Disabled is = cc
note_turns kind now say.Enabled is = cc

-- lives stay told at a step, where lines are kept
pub step_lives : (step : Step) (a b : State) → Steps step a b → a.kept ≡ true → LivesAreTold a → LivesAreTold b
step_lives (Calls k call) a b step kept lives =
    let sat = step.moves.0 in
    written a b k (word_of call) sat.old sat.new sat.was sat.is (rw kept at step.lines) sat.how.kind sat.how.turn lives
step_lives (Notes k word) a b step kept lives =
    let sat = step.moves.0 in
    written a b k word sat.old sat.new sat.was sat.is (rw kept at step.lines)
    (ap (λ (seat : Seat). seat.who.kind) sat.how.0)
    (note_turns sat.old.who.kind sat.old.standing word sat.how.1
    ∙ ap (λ (seat : Seat). Some seat.standing) (sym sat.how.0))
    lives
step_lives (Turns k on) a b step kept lives =
    let sat = step.moves.0 in
    written a b k (switch_word on) sat.old sat.new sat.was sat.is (rw kept at step.lines)
    (ap (λ (seat : Seat). seat.who.kind) sat.how.same) sat.how.turn lives
step_lives (Ranks k priority) a b step kept lives =
    let sat = step.moves.0 in
    unwritten a b k sat.old sat.new sat.was sat.is (rw (kept, append-nil) at step.lines)
    (ap (λ (seat : Seat). seat.who.kind) sat.how) (ap (λ (seat : Seat). seat.standing) sat.how) lives
step_lives (Takes place) a b step kept lives =
    let taken = step.moves in
    seated a b taken.seat taken.seats (rw (kept, append-nil) at step.lines) taken.seated.standing lives

-- lives stay told over a run, where lines are kept
pub run_lives : (steps : List Step) (a b : State) → Runs a steps b → a.kept ≡ true → LivesAreTold a → LivesAreTold b
run_lives [] a b run kept lives = rw run lives
run_lives (step ∷ steps) a b run kept lives =
    run_lives steps run.0 b run.2 (run.1.kept ∙ kept) (step_lives step a run.0 run.1 kept lives)

-- a plugin keeps its seat over a run
pub run_stays : (steps : List Step) (a b : State) (id : ℕ) (s : Seat) → Runs a steps b
    → slice_get a.seats id ≡ Some s → (t : Seat) × (slice_get b.seats id ≡ Some t)
run_stays steps a b id s run at = let follows = run_follows steps a b id s run at in (follows.now, follows.at)

-- and tells exactly its calls
pub run_told : (steps : List Step) (a b : State) (id : ℕ) (s t : Seat) → Runs a steps b
    → slice_get a.seats id ≡ Some s → slice_get b.seats id ≡ Some t
    → Heard s.who.told (calls_of id steps) t.who.told
run_told steps a b id s t run at later =
    let follows = run_follows steps a b id s run at in
    let same : follows.now ≡ t = same_Some follows.now t (sym follows.at ∙ later) in
    rw (← same) follows.heard

-- a call comes to none that was closed
step_closed : (step : Step) (a b : State) (id : ℕ) (s : Seat) → Steps step a b → slice_get a.seats id ≡ Some s
    → is_live s ≡ false → calls_of id (step ∷ []) ≡ []
step_closed (Calls k call) a b id s step at closed =
    ⊎_elim
    (λ (same : k ≡ id).
    let sat = step.moves.0 in
    let own : s ≡ sat.old = same_Some s sat.old (sym at ∙ rw (← same) sat.was) in
    let alive : is_live sat.old ≡ true =
    (call_keeps sat.old.who.kind sat.old.standing call sat.new.standing sat.how.turn).1 in
    absurd (false≢true (sym closed ∙ ap is_live own ∙ alive)))
    (λ (differ : k ≡ id → ⊥). rw (ne_eqb k id differ) refl)
    (cases_eq k id)
step_closed (Notes k word) a b id s step at closed = refl
step_closed (Turns k on) a b id s step at closed = refl
step_closed (Ranks k priority) a b id s step at closed = refl
step_closed (Takes place) a b id s step at closed = refl

-- a plugin that was closed before has no call in a run
pub run_closed : (steps : List Step) (a b : State) (id : ℕ) (s : Seat) → Runs a steps b
    → slice_get a.seats id ≡ Some s → is_live s ≡ false → calls_of id steps ≡ []
run_closed [] a b id s run at closed = refl
run_closed (step ∷ steps) a b id s run at closed =
    let first = step_follows step a run.0 id s run.1 at in
    calls_of-append id (step ∷ []) steps
    ∙ ap (λ (front : List Call). front ++ calls_of id steps) (step_closed step a run.0 id s run.1 at closed)
    ∙ run_closed steps run.0 b id first.now run.2 first.at (first.later.gone closed)
