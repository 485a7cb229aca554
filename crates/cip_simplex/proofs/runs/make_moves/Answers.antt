use Rattle.std.proofs.lemmas.Result.{IfOk-from_err}
use Rattle.std.proofs.lemmas.Grind.{common_steps}
use Rattle.std.proofs.Common.{◌∙◌, arith}
use Rattle.cip_simplex.specs.Advances.{ending_of}
use Rattle.cip_simplex.proofs.Lists.{made_size, one_made, all_wide, all_ended, all_stopped}
use Rattle.cip_simplex.proofs.runs.make_moves.Goals as goal

pub returns-in-Wide-clause-run : goal.returns-in-Wide-clause-run
returns-in-Wide-clause-run c = all_wide c.args.limit c.loop-made._made c.loop-made.dict c.loop-made.moves.items _ c.loop-made-test.true c.loop-made.invariant.so_far c.take_step.new.dict c.in-Wide.wide (rw c.in-Wide.is at c.in_ok-chosen.ensures)

pub returns-in-End-clause-run : goal.returns-in-End-clause-run
returns-in-End-clause-run c = all_ended c.args.limit c.loop-made._made c.loop-made.dict c.loop-made.moves.items _ c.loop-made-test.true c.loop-made.invariant.so_far c.take_step.new.dict c.in-End.step (rw c.in-End.is at c.in_ok-chosen.ensures)

pub loop-made-preserved : goal.loop-made-preserved
loop-made-preserved c = record {
  variables = made_size c.loop-made.dict c.take_step.new.dict c.in-Made.chosen (rw c.in-Made.is at c.in_ok-chosen.ensures) ∙ c.loop-made.invariant.variables;
  so_far = one_made c.args.limit c.loop-made._made c.loop-made.dict c.loop-made.moves.items _ c.loop-made-test.true c.loop-made.invariant.so_far c.take_step.new.dict c.in-Made.chosen c.push.new.self.items (rw c.in-Made.is at c.in_ok-chosen.ensures) c.in_ok-push-in-Made.ensures.items;
}

pub returns-clause-run : goal.returns-clause-run
returns-clause-run c = all_stopped c.args.limit c.loop-made._made c.loop-made.dict c.loop-made.moves.items _ (ending_of c.ending_here.result) (omega arith) c.loop-made.invariant.so_far c.ending_here.ensures

pub take_step-requires : goal.take_step-requires
take_step-requires c = omega (arith, c.loop-made.invariant.variables, c.requires)

pub ending_here-requires : goal.ending_here-requires
ending_here-requires c = omega (arith, c.loop-made.invariant.variables, c.requires)

pub returns-in-End-clause-variables : goal.returns-in-End-clause-variables
returns-in-End-clause-variables c = grind (arith, common_steps)

pub returns-in-Wide-clause-variables : goal.returns-in-Wide-clause-variables
returns-in-Wide-clause-variables c = grind (arith, common_steps)

pub returns-clause-variables : goal.returns-clause-variables
returns-clause-variables c = grind (arith, common_steps)

pub loop-made-init : goal.loop-made-init
loop-made-init c = grind (arith, common_steps)

pub returns-in_err-push-in-Made-clause-run : goal.returns-in_err-push-in-Made-clause-run
returns-in_err-push-in-Made-clause-run c = IfOk-from_err c.from_residual-in_err-push-in-Made.result _ c.from_residual-in_err-push-in-Made.ensures.0

pub returns-in_err-chosen-clause-run : goal.returns-in_err-chosen-clause-run
returns-in_err-chosen-clause-run c = IfOk-from_err c.from_residual.result _ c.from_residual.ensures.0

pub returns-in_err-push-in-Made-clause-variables : goal.returns-in_err-push-in-Made-clause-variables
returns-in_err-push-in-Made-clause-variables c = IfOk-from_err c.from_residual-in_err-push-in-Made.result _ c.from_residual-in_err-push-in-Made.ensures.0

pub returns-in_err-chosen-clause-variables : goal.returns-in_err-chosen-clause-variables
returns-in_err-chosen-clause-variables c = IfOk-from_err c.from_residual.result _ c.from_residual.ensures.0
