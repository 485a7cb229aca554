use Rattle.std.proofs.lemmas.Grind.{common_steps}
use Rattle.std.proofs.Common.{arith}
use Rattle.cip_basis.proofs.problem.Problem.of_rows.Goals as goal

pub returns-clause-ready : goal.returns-clause-ready
returns-clause-ready c = grind (arith, common_steps)

pub returns-clause-program : goal.returns-clause-program
returns-clause-program c = grind (arith, common_steps)
