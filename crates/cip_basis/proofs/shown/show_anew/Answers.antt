use Rattle.std.proofs.lemmas.Grind.{common_steps}
use Rattle.std.proofs.Common.{arith}
use Rattle.cip_basis.proofs.shown.show_anew.Goals as goal

pub returns-clause-room : goal.returns-clause-room
returns-clause-room c = grind (arith, common_steps)

pub returns-clause-shown : goal.returns-clause-shown
returns-clause-shown c = grind (arith, common_steps)

pub shown_once-requires-clause-ready : goal.shown_once-requires-clause-ready
shown_once-requires-clause-ready c = grind (arith, common_steps)

pub shown_once-requires-clause-room : goal.shown_once-requires-clause-room
shown_once-requires-clause-room c = grind (arith, common_steps)
