-- The list of a state is the moves of the rule, and what its end answers is right.
use Rattle.std.proofs.Common.{◌≡◌, ℕ, zero, suc, List, [], ◌∷◌, ◌++◌, length, slice_get, cond, Bool, true, false, Option, None, Some, refl, sym, ap, ◌∙◌, subst, arith}
use Rattle.std.proofs.lemmas.Option.{none-some, same_Some}
use Rattle.std.proofs.lemmas.List.{append_assoc}
use Rattle.cip_bland.specs.LinearProgram.{LinearProgram, IsProper}
use Rattle.cip_bland.specs.Dictionary.{Dictionary}
use Rattle.cip_bland.specs.Exchange.{after}
use Rattle.cip_bland.specs.FirstState.{first_operations}
use Rattle.cip_bland.specs.ProgramState.{system_of, first_of_program}
use Rattle.cip_bland.specs.declared.moves.Move.{Move}
use Rattle.cip_bland.specs.Rule.{next}
use Rattle.cip_bland.specs.MoveList.{is_out_of_range, wide_move, Ending, Ends, Overflows, Stops, Run, run_here, run_after, ending_at, run_by, run_from, run, state_by, state_after}
use Rattle.cip_bland.specs.EndAnswers.{Answer, OutOfRange, answer_after, answer_of, answer}
use Rattle.cip_bland.specs.Statements.{IsStateOf, IsRight, IsSound, IsMade, IsEnding, IsRun, RunsAreRight, AnswersAreRight}
use Rattle.cip_bland.specs.declared.steps.Step.{Step}
use Rattle.cip_bland.specs.declared.steps.Step.TheVariants.{Crossed, Infeasible, Optimum, Ray, Makes}
use Rattle.cip_bland.proofs.StepCases.{steps_are_sound, first_is_state}

-- ---- the list, step by step

-- a step is a move or an end
pub data Kind (step : Step) : Type 0 where
  is_move : (move : Move) → step ≡ Makes move → Kind step
  is_end : ((move : Move) → ¬ (step ≡ Makes move)) → Kind step

-- whether a step is a move, and which
abbrev pub move_in : Step → Option Move
move_in (Makes move) = Some move
move_in (Crossed v) = None
move_in (Infeasible i) = None
move_in Optimum = None
move_in (Ray j) = None

pub no_move : (step : Step) → move_in step ≡ None → (move : Move) → ¬ (step ≡ Makes move)
no_move step e move f = none-some move (sym e ∙ ap move_in f)

pub kind : (step : Step) → Kind step
kind (Makes move) = is_move move refl
kind (Crossed v) = is_end (no_move (Crossed v) refl)
kind (Infeasible i) = is_end (no_move (Infeasible i) refl)
kind Optimum = is_end (no_move Optimum refl)
kind (Ray j) = is_end (no_move (Ray j) refl)

pub same_move : (move other : Move) → Makes move ≡ Makes other → move ≡ other
same_move move other e = same_Some move other (ap move_in e)

end_here : (d : Dictionary) (step : Step) (rest : Dictionary → Run) → ((move : Move) → ¬ (step ≡ Makes move)) → run_from d step rest ≡ run_here d (Ends step)
end_here d (Makes move) rest never = absurd (never move refl)
end_here d (Crossed v) rest never = refl
end_here d (Infeasible i) rest never = refl
end_here d Optimum rest never = refl
end_here d (Ray j) rest never = refl

end_at : (step : Step) → ((move : Move) → ¬ (step ≡ Makes move)) → ending_at step ≡ Ends step
end_at (Makes move) never = absurd (never move refl)
end_at (Crossed v) never = refl
end_at (Infeasible i) never = refl
end_at Optimum never = refl
end_at (Ray j) never = refl

-- at an end the list ends, whatever the limit
pub run_end : (limit : ℕ) (d : Dictionary) → ((move : Move) → ¬ (next d ≡ Makes move)) → run limit d ≡ run_here d (Ends (next d))
unfolding run
run_end zero d never = ap (run_here d) (end_at (next d) never)
run_end (suc limit) d never = end_here d (next d) (run limit) never

-- where a move is left and none may be made, the limit is reached
pub run_limit : (d : Dictionary) (move : Move) → next d ≡ Makes move → run 0 d ≡ run_here d Stops
unfolding run
run_limit d move e = ap (λ step. run_here d (ending_at step)) e

-- a move that is out of range ends it
pub run_overflow : (limit : ℕ) (d : Dictionary) (move wide : Move) → next d ≡ Makes move → wide_move d move ≡ Some wide → run (suc limit) d ≡ run_here d (Overflows wide)
unfolding run
run_overflow limit d move wide e w =
    ap (λ step. run_from d step (run limit)) e ∙ ap (λ o. run_by d move o (run limit (after d move))) w

-- and one in range leads on
pub run_move : (limit : ℕ) (d : Dictionary) (move : Move) → next d ≡ Makes move → wide_move d move ≡ None → run (suc limit) d ≡ run_after move (run limit (after d move))
unfolding run
run_move limit d move e w =
    ap (λ step. run_from d step (run limit)) e ∙ ap (λ o. run_by d move o (run limit (after d move))) w

-- ---- states after moves

pub state_start : (d : Dictionary) → state_after 0 d ≡ d
unfolding state_after
state_start d = refl

pub state_more : (k : ℕ) (d : Dictionary) (move : Move) → next d ≡ Makes move → state_after (suc k) d ≡ state_after k (after d move)
unfolding state_after
state_more k d move e = ap (λ step. state_after k (state_by d step)) e

-- ---- what a list is

here_is : (limit : ℕ) (d : Dictionary) (ending : Ending) → IsEnding limit 0 d ending → IsRun limit d (run_here d ending)
here_is limit d ending h = record {
  few = omega arith;
  made = λ k move e. absurd (none-some move e);
  last = sym (state_start d);
  ending = h;
}

made_after : (d : Dictionary) (move : Move) (moves : List Move) → next d ≡ Makes move → wide_move d move ≡ None → ((k : ℕ) (m : Move) → slice_get moves k ≡ Some m → IsMade (after d move) k m) → (k : ℕ) (m : Move) → slice_get (move ∷ moves) k ≡ Some m → IsMade d k m
made_after d move moves e w h zero m f =
    let same = same_Some move m f in
    record {
      chosen = ap next (state_start d) ∙ e ∙ ap Makes same;
      in_range = ap (λ s. wide_move s m) (state_start d) ∙ ap (wide_move d) (sym same) ∙ w;
    }
made_after d move moves e w h (suc k) m f =
    let before = h k m f in
    record {
      chosen = ap next (state_more k d move e) ∙ before.chosen;
      in_range = ap (λ s. wide_move s m) (state_more k d move e) ∙ before.in_range;
    }

one_more : (limit made : ℕ) (d : Dictionary) (ending : Ending) → IsEnding limit made d ending → IsEnding (suc limit) (suc made) d ending
one_more limit made d (Ends step) h = h
one_more limit made d (Overflows wide) h = (omega (arith, h.0), h.1)
one_more limit made d Stops h = (ap suc h.0, h.1)

after_is : (limit : ℕ) (d : Dictionary) (move : Move) (r : Run) → next d ≡ Makes move → wide_move d move ≡ None → IsRun limit (after d move) r → IsRun (suc limit) d (run_after move r)
after_is limit d move r e w h = record {
  few = omega (arith, h.few);
  made = made_after d move r.moves e w h.made;
  last = h.last ∙ sym (state_more (length r.moves) d move e);
  ending = one_more limit (length r.moves) r.last r.ending h.ending;
}

pub run_is : (limit : ℕ) (d : Dictionary) → IsRun limit d (run limit d)
run_is zero d = go (kind (next d))
  where
    go : Kind (next d) → IsRun 0 d (run 0 d)
    go (is_move move e) = subst (IsRun 0 d) (sym (run_limit d move e)) (here_is 0 d Stops (refl, (move, e)))
    go (is_end never) = subst (IsRun 0 d) (sym (run_end 0 d never)) (here_is 0 d (Ends (next d)) (refl, never))
run_is (suc limit) d = go (λ e. run_is limit e) (kind (next d))
  where
    by_range : ((e : Dictionary) → IsRun limit e (run limit e)) → (move : Move) → next d ≡ Makes move → (o : Option Move) → wide_move d move ≡ o → IsRun (suc limit) d (run (suc limit) d)
    by_range before move e None w = subst (IsRun (suc limit) d) (sym (run_move limit d move e w)) (after_is limit d move (run limit (after d move)) e w (before (after d move)))
    by_range before move e (Some wide) w = subst (IsRun (suc limit) d) (sym (run_overflow limit d move wide e w)) (here_is (suc limit) d (Overflows wide) (omega arith, (move, e, w)))

    go : ((e : Dictionary) → IsRun limit e (run limit e)) → Kind (next d) → IsRun (suc limit) d (run (suc limit) d)
    go before (is_move move e) = by_range before move e (wide_move d move) refl
    go before (is_end never) = subst (IsRun (suc limit) d) (sym (run_end (suc limit) d never)) (here_is (suc limit) d (Ends (next d)) (refl, never))

-- ---- from a state of a program
module _ (program : LinearProgram) (proper : IsProper program) where
  leads_on : (d : Dictionary) (move : Move) → IsStateOf program d → next d ≡ Makes move → IsStateOf program (after d move)
  leads_on d move st e = (subst (IsSound program d) e (steps_are_sound program d proper st)).state

  pub last_is_state : (limit : ℕ) (d : Dictionary) → IsStateOf program d → IsStateOf program (run limit d).last
  last_is_state zero d st = go (kind (next d))
    where
      go : Kind (next d) → IsStateOf program (run 0 d).last
      go (is_move move e) = subst (λ (r : Run). IsStateOf program r.last) (sym (run_limit d move e)) st
      go (is_end never) = subst (λ (r : Run). IsStateOf program r.last) (sym (run_end 0 d never)) st
  last_is_state (suc limit) d st = go (λ e h. last_is_state limit e h) (kind (next d))
    where
      by_range : ((e : Dictionary) → IsStateOf program e → IsStateOf program (run limit e).last) → (move : Move) → next d ≡ Makes move → (o : Option Move) → wide_move d move ≡ o → IsStateOf program (run (suc limit) d).last
      by_range before move e None w = subst (λ (r : Run). IsStateOf program r.last) (sym (run_move limit d move e w)) (before (after d move) (leads_on d move st e))
      by_range before move e (Some wide) w = subst (λ (r : Run). IsStateOf program r.last) (sym (run_overflow limit d move wide e w)) st

      go : ((e : Dictionary) → IsStateOf program e → IsStateOf program (run limit e).last) → Kind (next d) → IsStateOf program (run (suc limit) d).last
      go before (is_move move e) = by_range before move e (wide_move d move) refl
      go before (is_end never) = subst (λ (r : Run). IsStateOf program r.last) (sym (run_end (suc limit) d never)) st

  sound_answer : (d : Dictionary) (moves : List Move) (step : Step) → ((move : Move) → ¬ (step ≡ Makes move)) → IsSound program d step → IsRight program (answer_after program moves d (Ends step))
  sound_answer d moves (Makes move) never h = absurd (never move refl)
  sound_answer d moves (Crossed v) never h = h
  sound_answer d moves (Infeasible i) never h = h
  sound_answer d moves Optimum never h = h
  sound_answer d moves (Ray j) never h = h

  right_by : (limit made : ℕ) (d : Dictionary) (moves : List Move) (ending : Ending) → IsStateOf program d → IsEnding limit made d ending → IsRight program (answer_after program moves d ending)
  right_by limit made d moves (Ends step) st h = sound_answer d moves step h.1 (subst (IsSound program d) h.0 (steps_are_sound program d proper st))
  right_by limit made d moves (Overflows wide) st h = tt
  right_by limit made d moves Stops st h = tt

  pub right_answer : (limit : ℕ) (d : Dictionary) → IsStateOf program d → IsRight program (answer_of program (run limit d))
  right_answer limit d st =
      let r = run limit d in
      right_by limit (length r.moves) r.last r.moves r.ending (last_is_state limit d st) (run_is limit d).ending

pub runs_are_right : RunsAreRight
runs_are_right = record {
  lists = run_is;
  states = λ program limit d proper st. last_is_state program proper limit d st;
  right = λ program limit d proper st. right_answer program proper limit d st;
}

by_first : (program : LinearProgram) (b : Bool) (other : Answer) → IsRight program other → IsRight program (cond b (OutOfRange []) other)
by_first program true other h = tt
by_first program false other h = h

pub answers_are_right : AnswersAreRight
unfolding answer
answers_are_right program limit proper =
    by_first program (is_out_of_range (first_operations (system_of program))) (answer_of program (run limit (first_of_program program))) (right_answer program proper limit (first_of_program program) (first_is_state program))

-- ---- the list from a state further on

-- what stands before a list
abbrev pub run_onto : List Move → Run → Run
run_onto moves r = record { moves = moves ++ r.moves; last = r.last; ending = r.ending }

pub onto_more : (moves : List Move) (move : Move) (r : Run) → run_onto moves (run_after move r) ≡ run_onto (moves ++ move ∷ []) r
onto_more moves move r = ap (λ ms. record { moves = ms; last = r.last; ending = r.ending }) (sym (append_assoc moves (move ∷ []) r.moves))
