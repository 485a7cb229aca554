use Rattle.std.proofs.lemmas.Grind.{common_steps}
use Rattle.std.proofs.Common.{subst, arith}
use Rattle.cip_problem.specs.WellFormed.{IsWellFormed}
use Rattle.cip_problem.proofs.Choices.Decided.{decided_formed}
use Rattle.cip_leaf.proofs.decided.Decided.costs.Goals as goal

pub returns-clause-formed : goal.returns-clause-formed
returns-clause-formed c = subst IsWellFormed c.self.view_is (decided_formed c.self.inside.program.now c.self.inside.on.now c.costs.ensures.formed)

pub returns-clause-costs : goal.returns-clause-costs
returns-clause-costs c = grind (arith, common_steps)
