use Rattle.std.proofs.lemmas.Grind.{common_steps}
use Rattle.std.proofs.Common.{arith}
use Rattle.cip_basis.proofs.shown.least.Goals as goal

pub returns-in-Some-clause-shown : goal.returns-in-Some-clause-shown
returns-in-Some-clause-shown c = grind (arith, common_steps)

pub least_cost-requires-clause-point : goal.least_cost-requires-clause-point
least_cost-requires-clause-point c = grind (arith, common_steps)

pub returns-in-None-clause-room : goal.returns-in-None-clause-room
returns-in-None-clause-room c = grind (arith, common_steps)

pub returns-in-Some-clause-room : goal.returns-in-Some-clause-room
returns-in-Some-clause-room c = grind (arith, common_steps)

pub least_cost-requires-clause-long : goal.least_cost-requires-clause-long
least_cost-requires-clause-long c = grind (arith, common_steps)

pub least_cost-requires-clause-room : goal.least_cost-requires-clause-room
least_cost-requires-clause-room c = grind (arith, common_steps)

pub least_cost-requires-clause-ready : goal.least_cost-requires-clause-ready
least_cost-requires-clause-ready c = grind (arith, common_steps)

pub returns-in-None-clause-shown : goal.returns-in-None-clause-shown
returns-in-None-clause-shown c = grind (arith, common_steps)
