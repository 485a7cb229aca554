-- What grants a wish asks nobody, and raises the event of the wish.
use Rattle.std.proofs.Common.{◌≡◌, ℕ, List, [], ◌∷◌, ◌++◌, length, Some, Bool, true, false, eqb, cond, sym, ◌∙◌, ap, subst, refl, append_assoc, append-nil, ◌⊎◌, inl, inr, ⊎_elim}
use Rattle.std.specs.Prelude.{◌≢◌, slice_get, Result, Ok, Err, OnOk}
use Rattle.cip_events.specs.declared.words.Word.{Word}
use Rattle.cip_events.specs.declared.events.Event.{Event}
use Rattle.cip_events.specs.Events.{event_at}
use Rattle.cip_events.specs.declared.events.EventKind.TheVariants.{PluginIncluded}
use Rattle.cip_plugin.specs.Calls.{Ask, Call, Init, InitSolve, ExitSolve, Exit}
use Rattle.cip_plugin.specs.declared.proposals.Wish.{Wish}
use Rattle.cip_plugin.specs.declared.proposals.Wish.TheVariants.{Include, Disable, Enable, Free, Priority}
use Rattle.cip_plugin.specs.Seats.{State}
use Rattle.cip_plugin.specs.Steps.{Step, Notes, Turns, Runs, calls_of, asks_in}
use Rattle.cip_plugin.specs.Wishing.{Grants, begun_with, begins, ends, fault_of, is_enabled, raised_by, raised_in}
use Rattle.cip_plugin.proofs.Counting.{raised_in-append}
use Rattle.cip_plugin.proofs.Hearing.{asks_in-append}
use Rattle.cip_plugin.proofs.Running.{Runs-append, calls_of-append}
use Rattle.cip_plugin.specs.declared.faults.WishFault.{WishFault}
use Rattle.cip_plugin.specs.Delivering.{IsTried, Names}
use Rattle.cip_plugin.specs.declared.faults.WishFault.TheVariants.{NoMemory}
use Rattle.cip_roster.specs.Wished.{IsNoted, TookQuietly, WasGranted, WasRefused}
use Rattle.cip_roster.proofs.Trying.{in_turn_append, in_turn_one}

-- what two lists of steps ask
pub steps_ask : (k : ℕ) (xs ys : List Step)
    → asks_in (calls_of k (xs ++ ys)) ≡ asks_in (calls_of k xs) ++ asks_in (calls_of k ys)
steps_ask k xs ys = ap asks_in (calls_of-append k xs ys) ∙ asks_in-append (calls_of k xs) (calls_of k ys)

-- one of the two first calls, and its note, ask nothing
begun_quiet : (k id : ℕ) (call : Call) (answered : Bool) → asks_in (call ∷ []) ≡ []
    → asks_in (calls_of k (begun_with id call answered)) ≡ []
begun_quiet k id call true none =
    elim (eqb id k) as (λ b. asks_in (cond b (call ∷ []) []) ≡ []) [ true ↦ none | false ↦ refl ]
begun_quiet k id call false none =
    elim (eqb id k) as (λ b. asks_in (cond b (call ∷ []) []) ≡ []) [ true ↦ none | false ↦ refl ]

-- both
begins_quiet : (k id : ℕ) (first second : Bool) → asks_in (calls_of k (begins id first second)) ≡ []
begins_quiet k id first second =
    steps_ask k (begun_with id (Init first) first) (begun_with id (InitSolve second) second)
    ∙ ap (λ (front : List Ask). front ++ asks_in (calls_of k (begun_with id (InitSolve second) second)))
    (begun_quiet k id (Init first) first refl)
    ∙ begun_quiet k id (InitSolve second) second refl

-- the two last calls ask nothing
ends_quiet : (k id : ℕ) → asks_in (calls_of k (ends id)) ≡ []
ends_quiet k id =
    elim (eqb id k) as (λ b. asks_in (cond b (ExitSolve ∷ cond b (Exit ∷ []) []) (cond b (Exit ∷ []) [])) ≡ [])
    [ true ↦ refl | false ↦ refl ]

-- what grants a wish asks nobody
pub grants_quiet : (state : State) (wish : Wish) (steps : List Step) (k : ℕ) → Grants state wish steps
    → asks_in (calls_of k steps) ≡ []
grants_quiet state (Include place) steps k grants =
    ap (λ (s : List Step). asks_in (calls_of k s)) grants.2
    ∙ begins_quiet k (length state.seats) grants.0 grants.1
grants_quiet state (Disable id) steps k grants =
    ap (λ (s : List Step). asks_in (calls_of k s)) grants
    ∙ elim (is_enabled (slice_get state.seats id)) as (λ b. asks_in (calls_of k (cond b (Turns id false ∷ []) [])) ≡ [])
    [ true ↦ refl | false ↦ refl ]
grants_quiet state (Enable id) steps k grants =
    ap (λ (s : List Step). asks_in (calls_of k s)) grants
    ∙ elim (is_enabled (slice_get state.seats id)) as (λ b. asks_in (calls_of k (cond b [] (Turns id true ∷ []))) ≡ [])
    [ true ↦ refl | false ↦ refl ]
grants_quiet state (Free id) steps k grants =
    ap (λ (s : List Step). asks_in (calls_of k s)) grants ∙ ends_quiet k id
grants_quiet state (Priority id priority) steps k grants = ap (λ (s : List Step). asks_in (calls_of k s)) grants

-- the two first calls raise nothing
begins_raise : (node id : ℕ) (first second : Bool) → raised_in node (begins id first second) ≡ []
begins_raise node id true true = refl
begins_raise node id true false = refl
begins_raise node id false true = refl
begins_raise node id false false = refl

-- what grants a wish raises its event
pub grants_raise : (node : ℕ) (state : State) (wish : Wish) (steps : List Step) → Grants state wish steps
    → raised_in node steps ≡ raised_by node wish
grants_raise node state (Include place) steps grants =
    ap (raised_in node) grants.2
    ∙ ap (λ (rest : List Event). event_at node PluginIncluded ∷ rest)
    (begins_raise node (length state.seats) grants.0 grants.1)
grants_raise node state (Disable id) steps grants =
    ap (raised_in node) grants
    ∙ elim (is_enabled (slice_get state.seats id)) as (λ b. raised_in node (cond b (Turns id false ∷ []) []) ≡ [])
    [ true ↦ refl | false ↦ refl ]
grants_raise node state (Enable id) steps grants =
    ap (raised_in node) grants
    ∙ elim (is_enabled (slice_get state.seats id)) as (λ b. raised_in node (cond b [] (Turns id true ∷ [])) ≡ [])
    [ true ↦ refl | false ↦ refl ]
grants_raise node state (Free id) steps grants = ap (raised_in node) grants
grants_raise node state (Priority id priority) steps grants = ap (raised_in node) grants

-- a granted wish took its steps quietly
pub took_granted : (id node : ℕ) (wish : Wish) (a b : State) (q r : List Event) → WasGranted wish a b
    → r ≡ q ++ raised_by node wish → TookQuietly id node (wish ∷ []) a b q r
took_granted id node wish a b q r was raised =
    let granted = was.granted in
    record {
      steps = granted.steps;
      run = granted.run;
      tried = in_turn_one (IsTried id) wish a b granted.steps
          (inl (record { fine = was.fine; grants = granted.grants; run = granted.run }));
      quiet = λ k. grants_quiet a wish granted.steps k granted.grants;
      raised = raised
          ∙ ap (λ (rest : List Event). q ++ rest) (sym (grants_raise node a wish granted.steps granted.grants));
    }

-- nothing was wished
pub took_none : (id node : ℕ) (a : State) (q : List Event) → TookQuietly id node [] a a q q
took_none id node a q = record {
  steps = [];
  run = refl;
  tried = (refl, refl);
  quiet = λ k. refl;
  raised = sym (append-nil q);
}

-- some wishes, and then others
pub took_more : (id node : ℕ) (xs ys : List Wish) (a b c : State) (q r s : List Event) → TookQuietly id node xs a b q r
    → TookQuietly id node ys b c r s → TookQuietly id node (xs ++ ys) a c q s
took_more id node xs ys a b c q r s first second = record {
  steps = first.steps ++ second.steps;
  run = Runs-append first.steps second.steps a b c first.run second.run;
  tried = in_turn_append (IsTried id) xs ys a b c first.steps second.steps first.tried second.tried;
  quiet = λ k. steps_ask k first.steps second.steps
      ∙ ap (λ (front : List Ask). front ++ asks_in (calls_of k second.steps)) (first.quiet k) ∙ second.quiet k;
  raised = second.raised
      ∙ ap (λ (front : List Event). front ++ raised_in node second.steps) first.raised
      ∙ append_assoc q (raised_in node first.steps) (raised_in node second.steps)
      ∙ ap (λ (rest : List Event). q ++ rest) (sym (raised_in-append node first.steps second.steps));
}

-- a wish was refused, and its fault noted
pub took_refused : (id node : ℕ) (wish : Wish) (fault : WishFault) (word : Word) (a b : State) (q r : List Event)
    → fault_of a wish ≡ Some fault → Names fault word → Runs a (Notes id word ∷ []) b → r ≡ q ++ []
    → TookQuietly id node (wish ∷ []) a b q r
took_refused id node wish fault word a b q r cause names run raised = record {
  steps = Notes id word ∷ [];
  run = run;
  tried = in_turn_one (IsTried id) wish a b (Notes id word ∷ [])
      (inr (record { fault = fault; cause = cause; word = word; names = names; writes = refl; run = run }));
  quiet = λ k. refl;
  raised = raised;
}

-- a fault was noted, where there was room
pub noted_fault : {A E : Type 0} (id : ℕ) (fault : WishFault) (word : Word) (a b : State) (result : Result A E)
    → fault ≢ NoMemory → Names fault word → OnOk result (Runs a (Notes id word ∷ []) b)
    → OnOk result (IsNoted id fault a b)
noted_fault id fault word a b (Ok x) other names run = record { other = other; word = word; names = names; run = run }
noted_fault id fault word a b (Err e) other names run = tt

-- a fault that isn't want of memory is one of the wish
fault_cause : (fault : WishFault) (wish : Wish) (a : State) → fault ≢ NoMemory
    → (fault ≡ NoMemory) ⊎ (fault_of a wish ≡ Some fault) → fault_of a wish ≡ Some fault
fault_cause fault wish a other cause = ⊎_elim (λ is. absurd (other is)) (λ is. is) cause

-- a wish was refused, and its fault noted
pub took_note : {A E : Type 0} (id node : ℕ) (wish : Wish) (fault : WishFault) (a w b : State) (q r : List Event)
    (result : Result A E) → WasRefused wish fault a w → OnOk result (IsNoted id fault w b) → r ≡ q ++ []
    → OnOk result (TookQuietly id node (wish ∷ []) a b q r)
took_note id node wish fault a w b q r (Ok x) was noted raised =
    took_refused id node wish fault noted.word a b q r (fault_cause fault wish a noted.other was.cause) noted.names
    (subst (λ (s : State). Runs s (Notes id noted.word ∷ []) b) was.same noted.run) raised
took_note id node wish fault a w b q r (Err e) was noted raised = tt
