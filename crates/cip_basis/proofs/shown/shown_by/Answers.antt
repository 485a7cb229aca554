use Rattle.std.proofs.lemmas.Grind.{common_steps}
use Rattle.std.proofs.Common.{arith}
use Rattle.cip_basis.proofs.shown.shown_by.Goals as goal

pub returns-then-is_emptied-clause-shown : goal.returns-then-is_emptied-clause-shown
returns-then-is_emptied-clause-shown c = grind (arith, common_steps)

pub returns-in-Ok-Some-clause-room : goal.returns-in-Ok-Some-clause-room
returns-in-Ok-Some-clause-room c = grind (arith, common_steps)

pub returns-then-is_emptied-clause-room : goal.returns-then-is_emptied-clause-room
returns-then-is_emptied-clause-room c = grind (arith, common_steps)

pub returns-then-eq-clause-room : goal.returns-then-eq-clause-room
returns-then-eq-clause-room c = grind (arith, common_steps)

pub is_emptied-requires-clause-room : goal.is_emptied-requires-clause-room
is_emptied-requires-clause-room c = grind (arith, common_steps)

pub is_emptied-requires-clause-ready : goal.is_emptied-requires-clause-ready
is_emptied-requires-clause-ready c = grind (arith, common_steps)

pub returns-in-Ok-None-clause-room : goal.returns-in-Ok-None-clause-room
returns-in-Ok-None-clause-room c = grind (arith, common_steps)

pub optimum-requires-clause-room : goal.optimum-requires-clause-room
optimum-requires-clause-room c = grind (arith, common_steps)

pub returns-then-eq-clause-shown : goal.returns-then-eq-clause-shown
returns-then-eq-clause-shown c = grind (arith, common_steps)

pub returns-clause-room : goal.returns-clause-room
returns-clause-room c = grind (arith, common_steps)

pub optimum-requires-clause-ready : goal.optimum-requires-clause-ready
optimum-requires-clause-ready c = grind (arith, common_steps)

pub returns-clause-shown : goal.returns-clause-shown
returns-clause-shown c = grind (arith, common_steps)

pub returns-in-Ok-Some-clause-shown : goal.returns-in-Ok-Some-clause-shown
returns-in-Ok-Some-clause-shown c = grind (arith, common_steps)

pub returns-in-Ok-None-clause-shown : goal.returns-in-Ok-None-clause-shown
returns-in-Ok-None-clause-shown c = grind (arith, common_steps)
