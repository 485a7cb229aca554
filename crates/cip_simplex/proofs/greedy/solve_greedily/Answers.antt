use Rattle.std.proofs.lemmas.Grind.{common_steps}
use Rattle.std.proofs.Common.{None, arith}
use Rattle.cip_bland.specs.ProgramState.{first_of_program}
use Rattle.cip_bland.proofs.StepCases.{first_is_state}
use Rattle.cip_simplex.proofs.FreeMoves.{reached}
use Rattle.cip_simplex.proofs.greedy.solve_greedily.Goals as goal

pub returns-in_ok-slack-in-Err-OutOfRange : goal.returns-in_ok-slack-in-Err-OutOfRange
returns-in_ok-slack-in-Err-OutOfRange c = reached c.args.lp.now (first_of_program c.args.lp.now) c.in_ok-slack-in-Err-OutOfRange.slack None (first_is_state c.args.lp.now) c.in_ok-slack-in-Err-OutOfRange.ensures.stands tt

pub returns-in-Ok : goal.returns-in-Ok
returns-in-Ok c = grind (arith, common_steps)

pub descend-solved-requires-clause-first : goal.descend-solved-requires-clause-first
descend-solved-requires-clause-first c = grind (arith, common_steps)
