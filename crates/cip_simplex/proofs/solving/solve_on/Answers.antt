use Rattle.std.proofs.lemmas.Grind.{common_steps}
use Rattle.std.proofs.Common.{ap, arith}
use Rattle.cip_simplex.specs.Advances.{ending_of}
use Rattle.cip_simplex.proofs.EndFacts.{ends_at}
use Rattle.cip_simplex.proofs.solving.solve_on.Goals as goal

pub end_answer-requires-clause-is_end : goal.end_answer-requires-clause-is_end
end_answer-requires-clause-is_end c =
    ends_at c.args.limit c.args.dict.now c.args.moves.items c.make_moves.new.moves.items c.make_moves.new.dict (ending_of c.in_ok-step.field-0) c.in_ok-step.ensures.run c.in-Ends.step (ap ending_of c.in-Ends.is)

pub end_answer-requires-clause-variables : goal.end_answer-requires-clause-variables
end_answer-requires-clause-variables c = grind (arith, common_steps)

pub returns-in-Ends-clause-answer : goal.returns-in-Ends-clause-answer
returns-in-Ends-clause-answer c = grind (arith, common_steps)

pub returns-in-Ends-clause-variables : goal.returns-in-Ends-clause-variables
returns-in-Ends-clause-variables c = grind (arith, common_steps)

pub returns-in-Stops-clause-answer : goal.returns-in-Stops-clause-answer
returns-in-Stops-clause-answer c = grind (arith, common_steps)

pub returns-in-Stops-clause-variables : goal.returns-in-Stops-clause-variables
returns-in-Stops-clause-variables c = grind (arith, common_steps)

pub returns-in_ok-push-in-Overflows-clause-answer : goal.returns-in_ok-push-in-Overflows-clause-answer
returns-in_ok-push-in-Overflows-clause-answer c = grind (arith, common_steps)

pub returns-in_ok-push-in-Overflows-clause-variables : goal.returns-in_ok-push-in-Overflows-clause-variables
returns-in_ok-push-in-Overflows-clause-variables c = grind (arith, common_steps)

pub make_moves-requires : goal.make_moves-requires
make_moves-requires c = grind (arith, common_steps)
