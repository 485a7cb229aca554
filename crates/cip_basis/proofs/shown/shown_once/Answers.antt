use Rattle.std.proofs.lemmas.Grind.{common_steps}
use Rattle.std.proofs.Common.{arith}
use Rattle.cip_basis.proofs.shown.shown_once.Goals as goal

pub returns-in-Ok-Some-shown_by-clause-shown : goal.returns-in-Ok-Some-shown_by-clause-shown
returns-in-Ok-Some-shown_by-clause-shown c = grind (arith, common_steps)

pub returns-in-Ok-Some-shown_by-clause-room : goal.returns-in-Ok-Some-shown_by-clause-room
returns-in-Ok-Some-shown_by-clause-room c = grind (arith, common_steps)

pub returns-in-Ok-None-shown_by-clause-room : goal.returns-in-Ok-None-shown_by-clause-room
returns-in-Ok-None-shown_by-clause-room c = grind (arith, common_steps)

pub returns-in-Err-shown_by-clause-room : goal.returns-in-Err-shown_by-clause-room
returns-in-Err-shown_by-clause-room c = grind (arith, common_steps)

pub returns-in-Ok-None-shown_by-clause-shown : goal.returns-in-Ok-None-shown_by-clause-shown
returns-in-Ok-None-shown_by-clause-shown c = grind (arith, common_steps)

pub shown_by-requires-in-Ok-None-shown_by-clause-ready : goal.shown_by-requires-in-Ok-None-shown_by-clause-ready
shown_by-requires-in-Ok-None-shown_by-clause-ready c = grind (arith, common_steps)

pub shown_by-requires-clause-ready : goal.shown_by-requires-clause-ready
shown_by-requires-clause-ready c = grind (arith, common_steps)

pub shown_by-requires-clause-room : goal.shown_by-requires-clause-room
shown_by-requires-clause-room c = grind (arith, common_steps)

pub returns-in-Ok-None-clause-room : goal.returns-in-Ok-None-clause-room
returns-in-Ok-None-clause-room c = grind (arith, common_steps)

pub returns-in-Err-clause-room : goal.returns-in-Err-clause-room
returns-in-Err-clause-room c = grind (arith, common_steps)

pub returns-in-Err-clause-shown : goal.returns-in-Err-clause-shown
returns-in-Err-clause-shown c = grind (arith, common_steps)

pub shown_by-requires-in-Ok-None-shown_by-clause-room : goal.shown_by-requires-in-Ok-None-shown_by-clause-room
shown_by-requires-in-Ok-None-shown_by-clause-room c = omega (arith, c.requires.room, c.shown_by.ensures.room)
