use Rattle.std.proofs.lemmas.Grind.{common_steps}
use Rattle.std.proofs.Common.{IfOk, [], refl, sym, ap, ◌∙◌, subst, arith}
use Rattle.cip_bland.specs.Dictionary.{size}
use Rattle.cip_bland.specs.EndAnswers.{answer_of}
use Rattle.cip_bland.specs.MoveList as list
use Rattle.cip_simplex.specs.LpAnswers.{IsAnswer}
use Rattle.cip_simplex.specs.declared.answers.LpAnswer.TheVariants.{Wide}
use Rattle.cip_simplex.proofs.EndFacts.{whole_ends_at}
use Rattle.cip_simplex.proofs.StartLaws.{state_size}
use Rattle.cip_simplex.proofs.WholeLists.{made_state, fewer, whole_made, whole_wide, whole_ended}
use Rattle.cip_simplex.proofs.solving.solve_all.Goals as goal

pub take_step-requires : goal.take_step-requires
take_step-requires c = omega (arith, state_size c.args.lp.now c.steps.dict c.steps.invariant.state, c.steps.invariant.solvable.few)

pub steps-smaller : goal.steps-smaller
steps-smaller c = fewer c.args.lp.now c.steps.invariant.solvable.proper c.steps.dict c.steps.invariant.state c.take_step.new.dict c.in-Made.chosen (rw c.in-Made.is at c.in_ok-chosen.ensures)

pub steps-preserved : goal.steps-preserved
steps-preserved c = record {
  solvable = c.steps.invariant.solvable;
  state = made_state c.args.lp.now c.steps.invariant.solvable.proper c.steps.dict c.steps.invariant.state c.take_step.new.dict c.in-Made.chosen (rw c.in-Made.is at c.in_ok-chosen.ensures);
  so_far = whole_made c.args.lp.now c.steps.invariant.solvable.proper c.steps.dict c.steps.invariant.state c.steps.moves.items _ c.steps.invariant.so_far c.take_step.new.dict c.in-Made.chosen c.push.new.self.items (rw c.in-Made.is at c.in_ok-chosen.ensures) c.in_ok-push-in-Made.ensures.items;
}

pub end_answer-requires-clause-is_end : goal.end_answer-requires-clause-is_end
end_answer-requires-clause-is_end c =
    whole_ends_at c.args.dict.now [] c.steps.moves.items c.take_step.new.dict (list.Ends c.in-End.step) (whole_ended c.args.lp.now c.steps.invariant.solvable.proper c.steps.dict c.steps.invariant.state c.steps.moves.items _ c.steps.invariant.so_far c.take_step.new.dict c.in-End.step (rw c.in-End.is at c.in_ok-chosen.ensures)) c.in-End.step refl

pub end_answer-requires-clause-variables : goal.end_answer-requires-clause-variables
end_answer-requires-clause-variables c =
    let h = rw c.in-End.is at c.in_ok-chosen.ensures in
    ap size h.state ∙ state_size c.args.lp.now c.steps.dict c.steps.invariant.state

pub returns-in-End : goal.returns-in-End
returns-in-End c =
    subst (λ (r : list.Run). IfOk c.end_answer.result (IsAnswer (answer_of c.args.lp.now r))) (sym (whole_ended c.args.lp.now c.steps.invariant.solvable.proper c.steps.dict c.steps.invariant.state c.steps.moves.items _ c.steps.invariant.so_far c.take_step.new.dict c.in-End.step (rw c.in-End.is at c.in_ok-chosen.ensures))) c.end_answer.ensures

pub returns-in-Wide : goal.returns-in-Wide
returns-in-Wide c =
    subst (λ (r : list.Run). IsAnswer (answer_of c.args.lp.now r) (Wide c.push-in-Wide.new.self)) (sym (whole_wide c.args.lp.now c.steps.invariant.solvable.proper c.steps.dict c.steps.invariant.state c.steps.moves.items _ c.steps.invariant.so_far c.take_step.new.dict c.in-Wide.wide (rw c.in-Wide.is at c.in_ok-chosen.ensures))) c.in_ok-push-in-Wide.ensures.items

pub steps-init : goal.steps-init
steps-init c = grind (arith, common_steps)
