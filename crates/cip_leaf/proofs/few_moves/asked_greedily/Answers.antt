use Rattle.std.proofs.lemmas.Grind.{common_steps}
use Rattle.std.proofs.Common.{Option, None, Some, IfSome, arith}
use Rattle.cip_problem.specs.LinearProgram.{LinearProgram}
use Rattle.cip_simplex.specs.Reached.{Holds, IsReached}
use Rattle.cip_simplex.specs.Starts.{Stands}
use Rattle.cip_simplex.specs.declared.answers.LpAnswer.{LpAnswer}
use Rattle.cip_leaf.proofs.few_moves.asked_greedily.Goals as goal

holds : (program : LinearProgram) (found : Option LpAnswer) (last : Stands) → IsReached program found last → IfSome found (Holds program)
holds program None last r = tt
holds program (Some found) last r = r.answered.right

pub returns-in-Ok : goal.returns-in-Ok
returns-in-Ok c = holds c.args.lp.now c.in-Ok.found c.in-Ok.last c.in-Ok.ensures

pub solve_greedily-solved-requires : goal.solve_greedily-solved-requires
solve_greedily-solved-requires c = grind (arith, common_steps)
