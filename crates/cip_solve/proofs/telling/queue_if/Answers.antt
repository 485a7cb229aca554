use Rattle.std.proofs.lemmas.Grind.{common_steps}
use Rattle.std.proofs.Common.{arith}
use Rattle.cip_solve.proofs.telling.queue_if.Goals as goal

pub returns-in-Some-clause-rest : goal.returns-in-Some-clause-rest
returns-in-Some-clause-rest g c = grind (arith, common_steps)

pub returns-in-None-clause-rest : goal.returns-in-None-clause-rest
returns-in-None-clause-rest g c = grind (arith, common_steps)

pub returns-in-Some-clause-roster : goal.returns-in-Some-clause-roster
returns-in-Some-clause-roster g c = grind (arith, common_steps)
