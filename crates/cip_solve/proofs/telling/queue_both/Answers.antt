use Rattle.std.proofs.lemmas.Grind.{common_steps}
use Rattle.std.proofs.Common.{◌∙◌, arith}
use Rattle.cip_solve.proofs.telling.queue_both.Goals as goal

pub returns-clause-roster : goal.returns-clause-roster
returns-clause-roster g c = c.queue_if-2.ensures.roster ∙ c.queue_if.ensures.roster

pub returns-clause-rest : goal.returns-clause-rest
returns-clause-rest g c = (c.queue_if-2.ensures.rest.0 ∙ c.queue_if.ensures.rest.0, c.queue_if-2.ensures.rest.1 ∙ c.queue_if.ensures.rest.1)

pub returns-in_err-queue_if-clause-rest : goal.returns-in_err-queue_if-clause-rest
returns-in_err-queue_if-clause-rest g c = grind (arith, common_steps)

pub returns-in_err-queue_if-clause-roster : goal.returns-in_err-queue_if-clause-roster
returns-in_err-queue_if-clause-roster g c = grind (arith, common_steps)

pub returns-in_err-second-clause-rest : goal.returns-in_err-second-clause-rest
returns-in_err-second-clause-rest g c = grind (arith, common_steps)

pub returns-in_err-second-clause-roster : goal.returns-in_err-second-clause-roster
returns-in_err-second-clause-roster g c = grind (arith, common_steps)
