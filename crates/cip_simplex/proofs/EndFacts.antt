-- What holds at the end of a list of moves.
use Rattle.std.proofs.Common.{◌≡◌, ℕ, List, length, sym, ap, ◌∙◌, subst}
use Rattle.cip_problem.specs.LinearProgram.{LinearProgram}
use Rattle.cip_bland.specs.Dictionary.{Dictionary}
use Rattle.cip_bland.specs.declared.moves.Move.{Move}
use Rattle.cip_bland.specs.Rule.{next}
use Rattle.cip_bland.specs.MoveList as list
use Rattle.cip_bland.specs.NoRepeat.{enough_moves, whole_run}
use Rattle.cip_bland.specs.Statements.{IsEnding}
use Rattle.cip_bland.specs.StateEnds.{IsEndAt}
use Rattle.cip_bland.specs.EndAnswers.{answer_of, answer_after}
use Rattle.cip_bland.specs.declared.steps.Step.{Step}
use Rattle.cip_bland.proofs.RunFacts.{run_is}
use Rattle.cip_bland.proofs.StateEnds.{named_ends_are_ends}
use Rattle.cip_simplex.specs.Advances.{run_behind}

-- ---- the end of a list

module _ (limit : ℕ) (d : Dictionary) (before moves : List Move) (last : Dictionary) (ending : list.Ending) (e : run_behind before (list.run limit d) ≡ record { moves = moves; last = last; ending = ending }) where
  pub last_is : (list.run limit d).last ≡ last
  last_is = ap (λ (r : list.Run). r.last) e

  ending_is : (list.run limit d).ending ≡ ending
  ending_is = ap (λ (r : list.Run). r.ending) e

  pub answer_is : (program : LinearProgram) → answer_of program (run_behind before (list.run limit d)) ≡ answer_after program moves last ending
  answer_is program = ap (answer_of program) e

  -- the last state is the end that it is said to be
  pub ends_at : (s : Step) → ending ≡ list.Ends s → IsEndAt last s
  ends_at s f =
      let r = list.run limit d in
      let h = run_is limit d in
      let at : IsEnding limit (length r.moves) r.last (list.Ends s) = subst (IsEnding limit (length r.moves) r.last) (ending_is ∙ f) h.ending in
      named_ends_are_ends last s (ap next (sym last_is) ∙ at.0) at.1

-- so at the end of the whole list
pub whole_ends_at : (d : Dictionary) (before moves : List Move) (last : Dictionary) (ending : list.Ending) → run_behind before (whole_run d) ≡ record { moves = moves; last = last; ending = ending } → (s : Step) → ending ≡ list.Ends s → IsEndAt last s
unfolding whole_run
whole_ends_at d before moves last ending e s f = ends_at (enough_moves d) d before moves last ending e s f
