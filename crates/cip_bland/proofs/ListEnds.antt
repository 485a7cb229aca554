-- No state comes twice in a list of moves, so each list ends, and a limit that is large enough changes nothing.
use Rattle.std.proofs.Common.{◌≡◌, ◌≢◌, ◌⊎◌, ℕ, zero, suc, ◌+◌, ◌-◌, ◌^◌, ◌<◌, ◌≤◌, Bool, true, false, cond, List, [], length, get_or, Option, None, Some, refl, sym, ap, ◌∙◌, subst, inl, inr, arith}
use Rattle.std.proofs.lemmas.Bool.{cases_lt}
use Rattle.std.proofs.lemmas.Option.{slice_get-get_or}
use Rattle.cip_bland.specs.LinearProgram.{LinearProgram, IsProper}
use Rattle.cip_bland.specs.Dictionary.{Dictionary, size, stand}
use Rattle.cip_bland.specs.Exchange.{after}
use Rattle.cip_bland.specs.FirstState.{first_operations}
use Rattle.cip_bland.specs.ProgramState.{system_of, first_of_program}
use Rattle.cip_bland.specs.declared.moves.Move.{Move}
use Rattle.cip_bland.specs.declared.moves.Move.TheVariants.{Exchange, Flip}
use Rattle.cip_bland.proofs.States.{exchanged-sides, flipped-sides}
use Rattle.cip_bland.specs.Rule.{next}
use Rattle.cip_bland.specs.MoveList.{is_out_of_range, wide_move, Ending, Ends, Overflows, Stops, Run, run_after, run, state_after}
use Rattle.cip_bland.specs.EndAnswers.{OutOfRange, LimitReached, answer_at, answer_after, answer_of, answer}
use Rattle.cip_bland.specs.Statements.{IsStateOf, IsRight, IsEnding, IsRun}
use Rattle.cip_bland.specs.NoRepeat.{Lasts, IsSameState, enough_moves, whole_run, moves_left, EndsOf, ListsEnd, whole_answer, WholeAnswerHolds, AnswersEnd}
use Rattle.cip_bland.specs.declared.steps.Step.{Step}
use Rattle.cip_bland.specs.declared.steps.Step.TheVariants.{Crossed, Infeasible, Optimum, Ray, Makes}
use Rattle.cip_bland.proofs.StepCases.{first_is_state}
use Rattle.cip_bland.proofs.RunFacts.{Kind, is_move, is_end, kind, run_end, run_limit, run_overflow, run_move, run_is, answers_are_right}
use Rattle.cip_bland.proofs.PointsOf.{size_is}
use Rattle.cip_bland.proofs.Codes.{code, code_below, same_code, few_numbers}
use Rattle.cip_bland.proofs.Turning.{state_add, states_on, no_return}

-- ---- states
module _ (program : LinearProgram) (proper : IsProper program) (d : Dictionary) (st : IsStateOf program d) where
  sizes_after : (k : ℕ) → size (state_after k d) ≡ size d
  sizes_after k = ap length (sym (states_on program proper k d st).same.same_sides ∙ st.same.same_sides)

  pub no_state_twice : (i j : ℕ) → Lasts j d → i < j → ¬ IsSameState (state_after i d) (state_after j d)
  no_state_twice i j lasts l same =
      let x = state_after i d in
      let e : i + (j - i) ≡ j = omega (arith, l) in
      no_return program proper x (states_on program proper i d st) (j - i)
      (λ k lk. let m = lasts (i + k) (omega (arith, lk, l)) in (m.0, ap next (state_add i k d) ∙ m.1))
      (omega (arith, l))
      (λ v lv. same v lv ∙ ap (λ y. stand y v) (sym (state_add i (j - i) d ∙ ap (λ k. state_after k d) e)))

  pub few_moves : (n : ℕ) → Lasts n d → n < 4 ^ size d
  few_moves n lasts =
      few_numbers (λ k. code (size d) (stand (state_after k d))) (4 ^ size d) n (λ i l. code_below (size d) (stand (state_after i d)))
      (λ i j l m e. no_state_twice i j (λ k lk. lasts k (omega (arith, lk, m))) l
      (λ v lv. same_code (size d) (stand (state_after i d)) (stand (state_after j d)) e v (omega (arith, lv, sizes_after i))))

-- ---- lists

lasts_of : (limit : ℕ) (d : Dictionary) (r : Run) → IsRun limit d r → Lasts (length r.moves) d
lasts_of limit d r h k l =
    let move = get_or r.moves k (Flip 0) in
    (move, (h.made k move (slice_get-get_or r.moves k (Flip 0) l)).chosen)

stops_at : (limit made : ℕ) (d : Dictionary) (ending : Ending) → ending ≡ Stops → IsEnding limit made d ending → (made ≡ limit) × ((move : Move) × (next d ≡ Makes move))
stops_at limit made d ending e h = subst (IsEnding limit made d) e h

more_lasts : (limit : ℕ) (d : Dictionary) (r : Run) → IsRun limit d r → r.ending ≡ Stops → Lasts (suc limit) d
more_lasts limit d r h e k l =
    let s = stops_at limit (length r.moves) r.last r.ending e h.ending in
    elim (cases_lt k limit) [
      | inl lt ↦ lasts_of limit d r h k (omega (arith, lt, s.0))
      | inr ge ↦
          (let same : length r.moves ≡ k = omega (arith, ge, l, s.0) in
          (s.1.0, ap next (sym (h.last ∙ ap (λ n. state_after n d) same)) ∙ s.1.1))
    ]

-- a list that doesn't stop at its limit is the same with a larger one
pub run_longer : (limit more : ℕ) (d : Dictionary) → (run limit d).ending ≢ Stops → run (limit + more) d ≡ run limit d
run_longer zero more d no_stop = go (kind (next d))
  where
    go : Kind (next d) → run (0 + more) d ≡ run 0 d
    go (is_move move e) = absurd (no_stop (ap (λ (r : Run). r.ending) (run_limit d move e)))
    go (is_end never) = run_end (0 + more) d never ∙ sym (run_end 0 d never)
run_longer (suc limit) more d no_stop = go (λ e h. run_longer limit more e h) (kind (next d))
  where
    later : suc limit + more ≡ suc (limit + more)
    later = omega arith

    by_range : ((e : Dictionary) → (run limit e).ending ≢ Stops → run (limit + more) e ≡ run limit e) → (move : Move) → next d ≡ Makes move → (o : Option Move) → wide_move d move ≡ o → run (suc limit + more) d ≡ run (suc limit) d
    by_range before move e None w =
        ap (λ n. run n d) later ∙ run_move (limit + more) d move e w
        ∙ ap (run_after move) (before (after d move) (λ s. no_stop (ap (λ (r : Run). r.ending) (run_move limit d move e w) ∙ s)))
        ∙ sym (run_move limit d move e w)
    by_range before move e (Some wide) w = ap (λ n. run n d) later ∙ run_overflow (limit + more) d move wide e w ∙ sym (run_overflow limit d move wide e w)

    go : ((e : Dictionary) → (run limit e).ending ≢ Stops → run (limit + more) e ≡ run limit e) → Kind (next d) → run (suc limit + more) d ≡ run (suc limit) d
    go before (is_move move e) = by_range before move e (wide_move d move) refl
    go before (is_end never) = run_end (suc limit + more) d never ∙ sym (run_end (suc limit) d never)

-- one that stops at its limit has no fewer moves with a larger one
longer_moves : (limit more : ℕ) (d : Dictionary) → (run limit d).ending ≡ Stops → limit ≤ length (run (limit + more) d).moves
longer_moves zero more d stop = omega arith
longer_moves (suc limit) more d stop = go (λ e h. longer_moves limit more e h) (kind (next d))
  where
    later : suc limit + more ≡ suc (limit + more)
    later = omega arith

    by_range : ((e : Dictionary) → (run limit e).ending ≡ Stops → limit ≤ length (run (limit + more) e).moves) → (move : Move) → next d ≡ Makes move → (o : Option Move) → wide_move d move ≡ o → suc limit ≤ length (run (suc limit + more) d).moves
    by_range before move e None w =
        let same : length (run (suc limit + more) d).moves ≡ suc (length (run (limit + more) (after d move)).moves) = ap (λ n. length (run n d).moves) later ∙ ap (λ (r : Run). length r.moves) (run_move (limit + more) d move e w) in
        let rest = before (after d move) (sym (ap (λ (r : Run). r.ending) (run_move limit d move e w)) ∙ stop) in
        omega (arith, same, rest)
    by_range before move e (Some wide) w = absurd (overflow_stops wide (sym (ap (λ (r : Run). r.ending) (run_overflow limit d move wide e w)) ∙ stop))
      where
        overflow_stops : (wide : Move) → ¬ (Overflows wide ≡ Stops)
        overflow_stops wide f = cc

    go : ((e : Dictionary) → (run limit e).ending ≡ Stops → limit ≤ length (run (limit + more) e).moves) → Kind (next d) → suc limit ≤ length (run (suc limit + more) d).moves
    go before (is_move move e) = by_range before move e (wide_move d move) refl
    go before (is_end never) = absurd (end_stops (next d) (sym (ap (λ (r : Run). r.ending) (run_end (suc limit) d never)) ∙ stop))
      where
        end_stops : (step : Step) → ¬ (Ends step ≡ Stops)
        end_stops step f = cc

-- whether a list stops at its limit
stops_or_not : (ending : Ending) → (ending ≡ Stops) ⊎ (ending ≢ Stops)
stops_or_not Stops = inl refl
stops_or_not (Ends step) = inr (λ (e : Ends step ≡ Stops). cc)
stops_or_not (Overflows move) = inr (λ (e : Overflows move ≡ Stops). cc)

pub size_after : (d : Dictionary) (move : Move) → size (after d move) ≡ size d
size_after d (Exchange i j to) = ap length (exchanged-sides d i j to)
size_after d (Flip j) = ap length (flipped-sides d j)

module _ (program : LinearProgram) (proper : IsProper program) (d : Dictionary) (st : IsStateOf program d) where
  pub never_stops : (limit : ℕ) → 4 ^ size d ≤ limit → (run limit d).ending ≢ Stops
  never_stops limit l e =
      let h = few_moves program proper d st (suc limit) (more_lasts limit d (run limit d) (run_is limit d) e) in
      omega (arith, l, h)

  whole_ends : (whole_run d).ending ≢ Stops
  unfolding whole_run
  whole_ends = never_stops (4 ^ size d) (omega arith)

  short : moves_left d < enough_moves d
  unfolding whole_run
  short = few_moves program proper d st (length (run (4 ^ size d) d).moves) (lasts_of (4 ^ size d) d (run (4 ^ size d) d) (run_is (4 ^ size d) d))

  larger : (limit : ℕ) → 4 ^ size d ≤ limit → run limit d ≡ whole_run d
  unfolding whole_run
  larger limit l =
      let e : 4 ^ size d + (limit - 4 ^ size d) ≡ limit = omega (arith, l) in
      ap (λ n. run n d) (sym e) ∙ run_longer (4 ^ size d) (limit - 4 ^ size d) d (never_stops (4 ^ size d) (omega arith))

  smaller : (limit : ℕ) → limit < 4 ^ size d → moves_left d < limit → run limit d ≡ whole_run d
  unfolding whole_run
  smaller limit l m =
      let e : limit + (4 ^ size d - limit) ≡ 4 ^ size d = omega (arith, l) in
      elim (stops_or_not (run limit d).ending) [
        | inl stop ↦
            (let k : limit ≤ length (run (4 ^ size d) d).moves = subst (λ n. limit ≤ length (run n d).moves) e (longer_moves limit (4 ^ size d - limit) d stop) in
            absurd (omega (arith, k, m)))
        | inr no_stop ↦ sym (run_longer limit (4 ^ size d - limit) d no_stop) ∙ ap (λ n. run n d) e
      ]

  whole : (limit : ℕ) → moves_left d < limit → run limit d ≡ whole_run d
  whole limit m =
      elim (cases_lt limit (4 ^ size d)) [
        | inl lt ↦ smaller limit lt m
        | inr ge ↦ larger limit ge
      ]

  falls : (move : Move) → next d ≡ Makes move → wide_move d move ≡ None → moves_left d ≡ suc (moves_left (after d move))
  unfolding whole_run
  falls move e w =
      let n = 4 ^ size d - 1 in
      let x = after d move in
      let more : 4 ^ size d ≡ suc n = omega (arith, short) in
      let first : run (4 ^ size d) d ≡ run_after move (run n x) = ap (λ k. run k d) more ∙ run_move n d move e w in
      let no_stop : (run n x).ending ≢ Stops = λ f. never_stops (4 ^ size d) (omega arith) (ap (λ (r : Run). r.ending) first ∙ f) in
      let same : 4 ^ size x ≡ n + 1 = ap (λ k. 4 ^ k) (size_after d move) ∙ more ∙ omega arith in
      let rest : run (4 ^ size x) x ≡ run n x = ap (λ k. run k x) same ∙ run_longer n 1 x no_stop in
      ap (λ (r : Run). length r.moves) first ∙ ap (λ (r : Run). suc (length r.moves)) (sym rest)

  pub ends_of : EndsOf d
  ends_of = record {
    no_state_twice = no_state_twice program proper d st;
    few = few_moves program proper d st;
    ends = whole_ends;
    whole = whole;
    short = short;
    falls = falls;
  }

pub lists_end : ListsEnd
lists_end program d proper st = ends_of program proper d st

-- ---- answers

end_answers : (program : LinearProgram) (d : Dictionary) (step : Step) → ((move : Move) → ¬ (step ≡ Makes move)) → answer_at program d step ≢ LimitReached
end_answers program d (Makes move) never e = never move refl
end_answers program d (Crossed v) never e = cc
end_answers program d (Infeasible i) never e = cc
end_answers program d Optimum never e = cc
end_answers program d (Ray j) never e = cc

run_answers : (program : LinearProgram) (limit made : ℕ) (moves : List Move) (d : Dictionary) (ending : Ending) → ending ≢ Stops → IsEnding limit made d ending → answer_after program moves d ending ≢ LimitReached
run_answers program limit made moves d (Ends step) no_stop h e = end_answers program d step h.1 e
run_answers program limit made moves d (Overflows move) no_stop h e = cc
run_answers program limit made moves d Stops no_stop h e = no_stop refl

module _ (program : LinearProgram) (proper : IsProper program) where
  enough_is : 4 ^ size (first_of_program program) ≡ 4 ^ (length program.bounds + length program.rows)
  enough_is = ap (λ k. 4 ^ k) (size_is program)

  no_limit : (b : Bool) (limit : ℕ) → 4 ^ (length program.bounds + length program.rows) ≤ limit → cond b (OutOfRange []) (answer_of program (run limit (first_of_program program))) ≢ LimitReached
  no_limit true limit l e = cc
  no_limit false limit l e =
      let r = run limit (first_of_program program) in
      run_answers program limit (length r.moves) r.moves r.last r.ending (never_stops program proper (first_of_program program) (first_is_state program) limit (omega (arith, l, enough_is))) (run_is limit (first_of_program program)).ending e

  answer_ends : whole_answer program ≢ LimitReached
  unfolding whole_answer answer
  answer_ends = no_limit (is_out_of_range (first_operations (system_of program))) (4 ^ (length program.bounds + length program.rows)) (omega arith)

  same_runs : (limit : ℕ) → 4 ^ (length program.bounds + length program.rows) ≤ limit → run limit (first_of_program program) ≡ run (4 ^ (length program.bounds + length program.rows)) (first_of_program program)
  same_runs limit l =
      let h = lists_end program (first_of_program program) proper (first_is_state program) in
      h.whole limit (omega (arith, h.short, l, enough_is))
      ∙ sym (h.whole (4 ^ (length program.bounds + length program.rows)) (omega (arith, h.short, enough_is)))

  answer_limits : (limit : ℕ) → 4 ^ (length program.bounds + length program.rows) ≤ limit → answer limit program ≡ whole_answer program
  unfolding whole_answer answer
  answer_limits limit l = ap (λ r. cond (is_out_of_range (first_operations (system_of program))) (OutOfRange []) (answer_of program r)) (same_runs limit l)

  answer_right : IsRight program (whole_answer program)
  unfolding whole_answer
  answer_right = answers_are_right program (4 ^ (length program.bounds + length program.rows)) proper

  pub whole_answer_holds : WholeAnswerHolds program
  whole_answer_holds = record { ends = answer_ends; right = answer_right; limits = answer_limits }

pub answers_end : AnswersEnd
answers_end program proper = whole_answer_holds program proper
