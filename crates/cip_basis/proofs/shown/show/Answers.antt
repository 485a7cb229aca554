use Rattle.std.proofs.lemmas.Grind.{common_steps}
use Rattle.std.proofs.Common.{arith}
use Rattle.cip_basis.proofs.shown.show.Goals as goal

pub returns-in-Ok-Some-clause-shown : goal.returns-in-Ok-Some-clause-shown
returns-in-Ok-Some-clause-shown c = grind (arith, common_steps)

pub returns-in-Ok-Some-clause-room : goal.returns-in-Ok-Some-clause-room
returns-in-Ok-Some-clause-room c = grind (arith, common_steps)

pub returns-in-Ok-None-2-clause-room : goal.returns-in-Ok-None-2-clause-room
returns-in-Ok-None-2-clause-room c = grind (arith, common_steps)

pub returns-in-Ok-None-clause-room : goal.returns-in-Ok-None-clause-room
returns-in-Ok-None-clause-room c = grind (arith, common_steps)

pub returns-in-Err-clause-room : goal.returns-in-Err-clause-room
returns-in-Err-clause-room c = grind (arith, common_steps)

pub returns-in-Ok-None-clause-shown : goal.returns-in-Ok-None-clause-shown
returns-in-Ok-None-clause-shown c = grind (arith, common_steps)

pub show_anew-requires-clause-ready : goal.show_anew-requires-clause-ready
show_anew-requires-clause-ready c = grind (arith, common_steps)

pub show_anew-requires-clause-room : goal.show_anew-requires-clause-room
show_anew-requires-clause-room c = grind (arith, common_steps)

pub shown_once-requires-clause-ready : goal.shown_once-requires-clause-ready
shown_once-requires-clause-ready c = grind (arith, common_steps)

pub shown_once-requires-clause-room : goal.shown_once-requires-clause-room
shown_once-requires-clause-room c = grind (arith, common_steps)

pub returns-in-Ok-None-2-clause-shown : goal.returns-in-Ok-None-2-clause-shown
returns-in-Ok-None-2-clause-shown c = grind (arith, common_steps)

pub returns-in-Err-clause-shown : goal.returns-in-Err-clause-shown
returns-in-Err-clause-shown c = grind (arith, common_steps)
