use Rattle.std.proofs.lemmas.Grind.{common_steps}
use Rattle.std.proofs.Common.{arith}
use Rattle.cip_basis.proofs.safe.shown_by.Goals as goal

pub returns-then-is_emptied-clause-safe : goal.returns-then-is_emptied-clause-safe
returns-then-is_emptied-clause-safe c = grind (arith, common_steps)

pub returns-in-Some-clause-room : goal.returns-in-Some-clause-room
returns-in-Some-clause-room c = grind (arith, common_steps)

pub returns-then-is_emptied-clause-room : goal.returns-then-is_emptied-clause-room
returns-then-is_emptied-clause-room c = grind (arith, common_steps)

pub returns-in-None-clause-room : goal.returns-in-None-clause-room
returns-in-None-clause-room c = grind (arith, common_steps)

pub returns-else-is_emptied-clause-room : goal.returns-else-is_emptied-clause-room
returns-else-is_emptied-clause-room c = grind (arith, common_steps)

pub returns-in-Some-clause-safe : goal.returns-in-Some-clause-safe
returns-in-Some-clause-safe c = grind (arith, common_steps)

pub is_emptied-requires-clause-room : goal.is_emptied-requires-clause-room
is_emptied-requires-clause-room c = grind (arith, common_steps)

pub safe_cost-requires-clause-room : goal.safe_cost-requires-clause-room
safe_cost-requires-clause-room c = grind (arith, common_steps)

pub is_emptied-requires-clause-ready : goal.is_emptied-requires-clause-ready
is_emptied-requires-clause-ready c = grind (arith, common_steps)

pub safe_cost-requires-clause-ready : goal.safe_cost-requires-clause-ready
safe_cost-requires-clause-ready c = grind (arith, common_steps)

pub returns-in-None-clause-safe : goal.returns-in-None-clause-safe
returns-in-None-clause-safe c = grind (arith, common_steps)

pub returns-else-is_emptied-clause-safe : goal.returns-else-is_emptied-clause-safe
returns-else-is_emptied-clause-safe c = grind (arith, common_steps)
