use Rattle.std.proofs.lemmas.Grind.{common_steps}
use Rattle.std.proofs.Common.{arith}
use Rattle.cip_basis.proofs.shown.optimum.Goals as goal

pub least-requires-clause-long : goal.least-requires-clause-long
least-requires-clause-long c = grind (arith, common_steps)

pub least-requires-clause-point : goal.least-requires-clause-point
least-requires-clause-point c = grind (arith, common_steps)

pub returns-in-Ok-Some-clause-room : goal.returns-in-Ok-Some-clause-room
returns-in-Ok-Some-clause-room c = grind (arith, common_steps)

pub returns-in-Ok-Some-clause-shown : goal.returns-in-Ok-Some-clause-shown
returns-in-Ok-Some-clause-shown c = grind (arith, common_steps)

pub least-requires-clause-ready : goal.least-requires-clause-ready
least-requires-clause-ready c = grind (arith, common_steps)

pub returns-in-Ok-None-clause-room : goal.returns-in-Ok-None-clause-room
returns-in-Ok-None-clause-room c = grind (arith, common_steps)

pub returns-in-Err-clause-room : goal.returns-in-Err-clause-room
returns-in-Err-clause-room c = grind (arith, common_steps)

pub tested-requires : goal.tested-requires
tested-requires c = grind (arith, common_steps)

pub returns-in_default-tested-clause-room : goal.returns-in_default-tested-clause-room
returns-in_default-tested-clause-room c = grind (arith, common_steps)

pub returns-in_default-clause-room : goal.returns-in_default-clause-room
returns-in_default-clause-room c = grind (arith, common_steps)

pub least-requires-clause-room : goal.least-requires-clause-room
least-requires-clause-room c = c.requires.room
