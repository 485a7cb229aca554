-- What a run writes of a plugin is what it calls it for.
use Rattle.std.proofs.Common.{◌≡◌, ℕ, List, [], ◌∷◌, ◌++◌, map, Bool, true, false, eqb, cond, sym, ◌∙◌, ap, refl, append-nil, append_assoc}
use Rattle.std.proofs.lemmas.List.{map-append}
use Rattle.cip_events.specs.declared.words.Word.{Word}
use Rattle.cip_events.specs.declared.words.Word.TheVariants as say
use Rattle.cip_events.specs.declared.traces.TraceLine.{TraceLine}
use Rattle.cip_plugin.specs.Calls.{Ask, Separate, Propagate, Price, Search, Branch, Enforce, OnEvent, Call, Init, InitSolve, Asked, ExitSolve, Exit}
use Rattle.cip_plugin.specs.Seats.{State}
use Rattle.cip_plugin.specs.Lives.{callbacks, is_callback, word_of, word_of_ask, words_of}
use Rattle.cip_plugin.specs.Steps.{Step, Calls, Notes, Turns, Ranks, Takes, Steps, Runs, calls_of, is_note, lines_of, switch_word}
use Rattle.cip_plugin.proofs.Living.{words_of-append}
use Rattle.cip_plugin.proofs.Running.{calls_of-append}

-- the words of calls among some and others
pub callbacks-append : (xs ys : List Word) → callbacks (xs ++ ys) ≡ callbacks xs ++ callbacks ys
callbacks-append [] ys = refl
callbacks-append (x ∷ xs) ys =
    elim (is_callback x) as (λ b. cond b (x ∷ callbacks (xs ++ ys)) (callbacks (xs ++ ys))
    ≡ cond b (x ∷ callbacks xs) (callbacks xs) ++ callbacks ys) [
      | true ↦ ap (λ (rest : List Word). x ∷ rest) (callbacks-append xs ys)
      | false ↦ callbacks-append xs ys
    ]

-- what is asked is a call
asks_call : (ask : Ask) → is_callback (word_of_ask ask) ≡ true
asks_call Separate = refl
asks_call Propagate = refl
asks_call (Price block costs) = refl
asks_call Search = refl
asks_call Branch = refl
asks_call Enforce = refl
asks_call (OnEvent event) = refl

-- the word of a call is that of a call
pub calls_call : (call : Call) → is_callback (word_of call) ≡ true
calls_call (Init was) = refl
calls_call (InitSolve was) = refl
calls_call (Asked ask given) = asks_call ask
calls_call ExitSolve = refl
calls_call Exit = refl

-- a note isn't
pub notes_none : (word : Word) → is_note word ≡ true → is_callback word ≡ false
notes_none say.NoMemory is = refl
notes_none (say.Dropped count) is = refl
notes_none (say.Refused fault) is = refl
notes_none say.Init is = cc
notes_none say.InitSolve is = cc
notes_none say.Separate is = cc
notes_none say.Propagate is = cc
notes_none say.Price is = cc
notes_none say.Search is = cc
notes_none say.Branch is = cc
notes_none say.Enforce is = cc
notes_none say.OnEvent is = cc
notes_none say.ExitSolve is = cc
notes_none say.Exit is = cc
notes_none say.Disabled is = cc
notes_none say.Enabled is = cc

-- nor is the word of being enabled or disabled
switch_none : (on : Bool) → is_callback (switch_word on) ≡ false
switch_none true = refl
switch_none false = refl

-- a line that tells no call
silent : (own : Bool) (word : Word) → is_callback word ≡ false → callbacks (cond own (word ∷ []) []) ≡ []
silent true word none = ap (λ (b : Bool). cond b (word ∷ []) []) none
silent false word none = refl

-- a line that tells one
tells_one : (own : Bool) (call : Call)
    → callbacks (cond own (word_of call ∷ []) []) ≡ map (λ call. word_of call) (cond own (call ∷ []) [])
tells_one true call = ap (λ (b : Bool). cond b (word_of call ∷ []) []) (calls_call call)
tells_one false call = refl

-- the lines of a step tell its calls
step_tells : (step : Step) (a b : State) (id : ℕ) → Steps step a b
    → callbacks (words_of id (lines_of step)) ≡ map (λ call. word_of call) (calls_of id (step ∷ []))
step_tells (Calls k call) a b id took = tells_one (eqb k id) call
step_tells (Notes k word) a b id took = silent (eqb k id) word (notes_none word took.moves.0.how.1)
step_tells (Turns k on) a b id took = silent (eqb k id) (switch_word on) (switch_none on)
step_tells (Ranks k priority) a b id took = refl
step_tells (Takes place) a b id took = refl

-- the lines behind a step, where they are kept
lines_kept : (step : Step) (a b : State) → Steps step a b → a.kept ≡ true → b.lines ≡ a.lines ++ lines_of step
lines_kept step a b took kept =
    took.lines ∙ ap (λ (b : Bool). cond b (a.lines ++ lines_of step) a.lines) kept

-- a run writes the words of its calls
pub run_tells : (steps : List Step) (a b : State) (id : ℕ) → Runs a steps b → a.kept ≡ true
    → callbacks (words_of id b.lines) ≡ callbacks (words_of id a.lines) ++ map (λ call. word_of call) (calls_of id
    steps)
run_tells [] a b id run kept =
    ap (λ (s : State). callbacks (words_of id s.lines)) run ∙ sym (append-nil (callbacks (words_of id a.lines)))
run_tells (step ∷ steps) a b id run kept =
    let c = run.0 in
    let had = callbacks (words_of id a.lines) in
    run_tells steps c b id run.2 (run.1.kept ∙ kept)
    ∙ ap (λ (front : List Word). front ++ map (λ call. word_of call) (calls_of id steps))
    (ap (λ (lines : List TraceLine). callbacks (words_of id lines)) (lines_kept step a c run.1 kept)
    ∙ ap callbacks (words_of-append id a.lines (lines_of step))
    ∙ callbacks-append (words_of id a.lines) (words_of id (lines_of step))
    ∙ ap (λ (rest : List Word). had ++ rest) (step_tells step a c id run.1))
    ∙ append_assoc had (map (λ call. word_of call) (calls_of id (step ∷ []))) (map (λ call. word_of call) (calls_of id
    steps))
    ∙ ap (λ (rest : List Word). had ++ rest)
    (sym (map-append (λ (call : Call). word_of call) (calls_of id (step ∷ [])) (calls_of id steps)))
    ∙ ap (λ (calls : List Call). had ++ map (λ call. word_of call) calls) (sym (calls_of-append id (step ∷ []) steps))
