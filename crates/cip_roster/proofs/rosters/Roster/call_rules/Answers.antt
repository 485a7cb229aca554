use Rattle.std.proofs.Common.{refl}
use Rattle.cip_roster.proofs.rosters.Roster.call_rules.Goals as goal

pub call_next-requires-clause-sound : goal.call_next-requires-clause-sound
call_next-requires-clause-sound g c = c.requires.sound

pub call_next-requires-clause-fits : goal.call_next-requires-clause-fits
call_next-requires-clause-fits g c = refl

pub returns-clause-sound : goal.returns-clause-sound
returns-clause-sound g c = c.call_next.ensures.sound

pub returns-clause-called : goal.returns-clause-called
returns-clause-called g c = c.call_next.ensures.called

pub returns-clause-err : goal.returns-clause-err
returns-clause-err g c = c.call_next.ensures.err
