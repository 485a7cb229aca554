-- Lists of moves without a limit, one move after another.
use Rattle.std.proofs.Common.{◌≡◌, suc, ◌<◌, List, [], ◌∷◌, ◌++◌, None, sym, ap, ◌∙◌, subst, arith}
use Rattle.std.proofs.lemmas.List.{append_assoc, append-nil}
use Rattle.cip_problem.specs.LinearProgram.{LinearProgram, IsProper}
use Rattle.cip_bland.specs.Dictionary.{Dictionary}
use Rattle.cip_bland.specs.Exchange.{after}
use Rattle.cip_bland.specs.declared.moves.Move.{Move}
use Rattle.cip_bland.specs.Rule.{next}
use Rattle.cip_bland.specs.MoveList as list
use Rattle.cip_bland.specs.NoRepeat.{enough_moves, whole_run, moves_left}
use Rattle.cip_bland.specs.Statements.{IsStateOf, IsSound}
use Rattle.cip_bland.specs.declared.steps.Step.{Step}
use Rattle.cip_bland.specs.declared.steps.Step.TheVariants.{Makes}
use Rattle.cip_bland.proofs.RunFacts.{run_end, run_overflow, run_move}
use Rattle.cip_bland.proofs.ListEnds.{lists_end}
use Rattle.cip_bland.proofs.StepCases.{steps_are_sound}
use Rattle.cip_simplex.specs.Advances.{HasMade, IsWideAt, IsEndAt, run_behind}

module _ (program : LinearProgram) (proper : IsProper program) (d : Dictionary) (st : IsStateOf program d) where
  -- a move leads to a state of the program, and leaves fewer
  pub made_state : (later : Dictionary) (move : Move) → HasMade d later move → IsStateOf program later
  made_state later move h =
      subst (IsStateOf program) (sym h.state) (subst (IsSound program d) h.is_next (steps_are_sound program d proper st)).state

  whole_more : (move : Move) → next d ≡ Makes move → list.wide_move d move ≡ None → IsStateOf program (after d move) → whole_run d ≡ list.run_after move (whole_run (after d move))
  unfolding whole_run
  whole_more move e w st' =
      let left = (lists_end program d proper st).falls move e w in
      let few = (lists_end program (after d move) proper st').short in
      sym ((lists_end program d proper st).whole (suc (enough_moves (after d move))) (omega (arith, left, few)))
      ∙ run_move (enough_moves (after d move)) d move e w

  pub fewer : (later : Dictionary) (move : Move) → HasMade d later move → moves_left later < moves_left d
  fewer later move h =
      let left = (lists_end program d proper st).falls move h.is_next h.in_range in
      subst (λ e. moves_left e < moves_left d) (sym h.state) (omega (arith, left))

  module _ (moves : List Move) (all : list.Run) (so_far : run_behind moves (whole_run d) ≡ all) where
    pub whole_made : (later : Dictionary) (move : Move) (longer : List Move) → HasMade d later move → longer ≡ moves ++ move ∷ [] → run_behind longer (whole_run later) ≡ all
    whole_made later move longer h e =
        let rest = whole_run (after d move) in
        let st' = subst (IsStateOf program) h.state (made_state later move h) in
        ap (λ ms. run_behind ms (whole_run later)) e
        ∙ ap (λ s. run_behind (moves ++ move ∷ []) (whole_run s)) h.state
        ∙ ap (λ ms. record { moves = ms; last = rest.last; ending = rest.ending }) (append_assoc moves (move ∷ []) rest.moves)
        ∙ sym (ap (run_behind moves) (whole_more move h.is_next h.in_range st'))
        ∙ so_far

    pub whole_wide : (later : Dictionary) (wide : Move) → IsWideAt d later wide → all ≡ record { moves = moves; last = later; ending = list.Overflows wide }
    whole_wide later wide h =
        sym so_far
        ∙ ap (run_behind moves) (sym ((lists_end program d proper st).whole (suc (enough_moves d)) (omega (arith, (lists_end program d proper st).short))) ∙ run_overflow (enough_moves d) d h.move wide h.is_next h.out_of_range)
        ∙ ap (λ ms. record { moves = ms; last = d; ending = list.Overflows wide }) (append-nil moves)
        ∙ ap (λ s. record { moves = moves; last = s; ending = list.Overflows wide }) (sym h.state)

    pub whole_ended : (later : Dictionary) (step : Step) → IsEndAt d later step → all ≡ record { moves = moves; last = later; ending = list.Ends step }
    whole_ended later step h =
        sym so_far
        ∙ ap (run_behind moves) (sym ((lists_end program d proper st).whole (suc (enough_moves d)) (omega (arith, (lists_end program d proper st).short))) ∙ run_end (suc (enough_moves d)) d (λ move e. h.is_end move (sym h.is_next ∙ e)))
        ∙ ap (λ ms. record { moves = ms; last = d; ending = list.Ends (next d) }) (append-nil moves)
        ∙ ap (λ s. record { moves = moves; last = d; ending = list.Ends s }) h.is_next
        ∙ ap (λ s. record { moves = moves; last = s; ending = list.Ends step }) (sym h.state)
