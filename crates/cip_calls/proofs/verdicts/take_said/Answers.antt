use Rattle.std.proofs.lemmas.Grind.{common_steps}
use Rattle.std.proofs.Common.{arith}
use Rattle.cip_calls.proofs.verdicts.take_said.Goals as goal

pub take_reduced-requires-clause-ready : goal.take_reduced-requires-clause-ready
take_reduced-requires-clause-ready g c = c.requires.ready

pub take_reduced-requires-clause-sound : goal.take_reduced-requires-clause-sound
take_reduced-requires-clause-sound g c = c.requires.sound

pub take_reduced-requires-clause-seat : goal.take_reduced-requires-clause-seat
take_reduced-requires-clause-seat g c = c.requires.seat

pub take_separated-requires-clause-ready : goal.take_separated-requires-clause-ready
take_separated-requires-clause-ready g c = c.requires.ready

pub take_separated-requires-clause-sound : goal.take_separated-requires-clause-sound
take_separated-requires-clause-sound g c = c.requires.sound

pub take_separated-requires-clause-seat : goal.take_separated-requires-clause-seat
take_separated-requires-clause-seat g c = c.requires.seat

pub take_word-requires-clause-ready : goal.take_word-requires-clause-ready
take_word-requires-clause-ready g c = c.requires.ready

pub take_word-requires-clause-sound : goal.take_word-requires-clause-sound
take_word-requires-clause-sound g c = c.requires.sound

pub take_word-requires-clause-seat : goal.take_word-requires-clause-seat
take_word-requires-clause-seat g c = c.requires.seat

pub returns-in_default : goal.returns-in_default
returns-in_default g c = grind (arith, common_steps)

pub returns-in-Separated-clause-verdict : goal.returns-in-Separated-clause-verdict
returns-in-Separated-clause-verdict g c = grind (arith, common_steps)

pub returns-in-Separated-clause-judged : goal.returns-in-Separated-clause-judged
returns-in-Separated-clause-judged g c = grind (arith, common_steps)

pub returns-in-Reduced-clause-verdict : goal.returns-in-Reduced-clause-verdict
returns-in-Reduced-clause-verdict g c = grind (arith, common_steps)

pub returns-in-Reduced-clause-judged : goal.returns-in-Reduced-clause-judged
returns-in-Reduced-clause-judged g c = grind (arith, common_steps)

pub returns-in-Separated-clause-gone : goal.returns-in-Separated-clause-gone
returns-in-Separated-clause-gone g c = grind (arith, common_steps)

pub returns-in-Reduced-clause-gone : goal.returns-in-Reduced-clause-gone
returns-in-Reduced-clause-gone g c = grind (arith, common_steps)
