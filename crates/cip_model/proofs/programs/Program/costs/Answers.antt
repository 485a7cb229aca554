use Rattle.std.proofs.lemmas.Grind.{common_steps}
use Rattle.std.proofs.Common.{arith}
use Rattle.cip_model.proofs.programs.Program.costs.Goals as goal

pub returns-clause-formed : goal.returns-clause-formed
returns-clause-formed c = grind (arith, common_steps)

pub returns-clause-costs : goal.returns-clause-costs
returns-clause-costs c = grind (arith, common_steps)
