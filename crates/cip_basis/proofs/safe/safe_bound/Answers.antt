use Rattle.std.proofs.lemmas.Grind.{common_steps}
use Rattle.std.proofs.Common.{arith}
use Rattle.cip_basis.proofs.safe.safe_bound.Goals as goal

pub returns-clause-room : goal.returns-clause-room
returns-clause-room c = grind (arith, common_steps)

pub returns-clause-safe : goal.returns-clause-safe
returns-clause-safe c = grind (arith, common_steps)

pub shown_by-safe-requires-clause-ready : goal.shown_by-safe-requires-clause-ready
shown_by-safe-requires-clause-ready c = grind (arith, common_steps)

pub shown_by-safe-requires-clause-room : goal.shown_by-safe-requires-clause-room
shown_by-safe-requires-clause-room c = grind (arith, common_steps)

pub returns-in_default-2-clause-room : goal.returns-in_default-2-clause-room
returns-in_default-2-clause-room c = grind (arith, common_steps)

pub returns-in_err-combo-clause-room : goal.returns-in_err-combo-clause-room
returns-in_err-combo-clause-room c = grind (arith, common_steps)

pub returns-in_default-clause-safe : goal.returns-in_default-clause-safe
returns-in_default-clause-safe c = grind (arith, common_steps)
