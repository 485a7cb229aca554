use Rattle.std.proofs.lemmas.Result.{IfOk-from_err}
use Rattle.std.proofs.lemmas.Grind.{common_steps}
use Rattle.std.proofs.Common.{arith}
use Rattle.cip_bland.specs.Rule.{is_crossed}
use Rattle.cip_simplex.proofs.FreeMoves.{least_passes, none_passes, state_made, uncrossed_made}
use Rattle.cip_simplex.proofs.StartLaws.{state_size}
use Rattle.cip_simplex.proofs.greedy_steps.descend_to_end.Goals as goal

pub least_crossed-requires : goal.least_crossed-requires
least_crossed-requires c = omega (arith, state_size c.args.lp.now c.args.dict.now c.requires, c.columns-columns.ensures.solvable.few)

pub returns-in-Some-clause-end : goal.returns-in-Some-clause-end
returns-in-Some-clause-end c = least_passes c.args.dict.now (is_crossed c.args.dict.now) c.in-Some.v c.in-Some.ensures

pub loop-made-init : goal.loop-made-init
loop-made-init c = record {
  state = c.requires;
  uncrossed = none_passes c.args.dict.now (is_crossed c.args.dict.now) c.in_default.ensures;
}

pub take_chosen-requires-clause-few : goal.take_chosen-requires-clause-few
take_chosen-requires-clause-few c = omega (arith, state_size c.args.lp.now c.loop-made.dict c.loop-made.invariant.state, c.columns-columns.ensures.solvable.few)

pub loop-made-preserved : goal.loop-made-preserved
loop-made-preserved c = record {
  state = state_made c.args.lp.now c.loop-made.dict c.take_chosen.new.dict c.in-Made.field-0 c.loop-made.invariant.state (rw c.in-Made.is at c.in_ok-take_chosen.ensures);
  uncrossed = uncrossed_made c.args.lp.now c.loop-made.dict c.take_chosen.new.dict c.in-Made.field-0 c.loop-made.invariant.state c.loop-made.invariant.uncrossed (rw c.in-Made.is at c.in_ok-take_chosen.ensures);
}

pub returns-in-End-clause-end : goal.returns-in-End-clause-end
returns-in-End-clause-end c = grind (arith, common_steps)

pub returns-in-End-clause-state : goal.returns-in-End-clause-state
returns-in-End-clause-state c = grind (arith, common_steps)

pub returns-in-Wide-clause-state : goal.returns-in-Wide-clause-state
returns-in-Wide-clause-state c = grind (arith, common_steps)

pub returns-in-Wide-clause-end : goal.returns-in-Wide-clause-end
returns-in-Wide-clause-end c = grind (arith, common_steps)

pub returns-clause-state : goal.returns-clause-state
returns-clause-state c = grind (arith, common_steps)

pub returns-clause-end : goal.returns-clause-end
returns-clause-end c = grind (arith, common_steps)

pub returns-in_err-take_chosen-clause-end : goal.returns-in_err-take_chosen-clause-end
returns-in_err-take_chosen-clause-end c = IfOk-from_err c.from_residual.result _ c.from_residual.ensures.0

pub returns-in_err-take_chosen-clause-state : goal.returns-in_err-take_chosen-clause-state
returns-in_err-take_chosen-clause-state c = IfOk-from_err c.from_residual.result _ c.from_residual.ensures.0
