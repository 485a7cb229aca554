use Rattle.std.proofs.lemmas.Grind.{common_steps}
use Rattle.std.proofs.Common.{subst, arith}
use Rattle.cip_problem.specs.WellFormed.{IsWellFormed}
use Rattle.cip_problem.proofs.Choices.Decided.{decided_formed}
use Rattle.cip_leaf.proofs.decided.Decided.columns.Goals as goal

pub returns-clause-formed : goal.returns-clause-formed
returns-clause-formed c = subst IsWellFormed c.self.view_is (decided_formed c.self.inside.program.now c.self.inside.on.now c.columns.ensures.formed)

pub returns-clause-count : goal.returns-clause-count
returns-clause-count c = grind (arith, common_steps)
