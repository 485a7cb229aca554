use Rattle.std.proofs.Common.{refl}
use Rattle.cip_roster.proofs.rosters.Roster.call_separators.Goals as goal

pub call_both-requires-clause-sound : goal.call_both-requires-clause-sound
call_both-requires-clause-sound g c = c.requires.sound

pub call_both-requires-clause-fits : goal.call_both-requires-clause-fits
call_both-requires-clause-fits g c = refl

pub call_both-requires-clause-handlers : goal.call_both-requires-clause-handlers
call_both-requires-clause-handlers g c = refl

pub returns-clause-sound : goal.returns-clause-sound
returns-clause-sound g c = c.call_both.ensures.sound

pub returns-clause-called : goal.returns-clause-called
returns-clause-called g c = c.call_both.ensures.called

pub returns-clause-err : goal.returns-clause-err
returns-clause-err g c = c.call_both.ensures.err
