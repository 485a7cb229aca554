use Rattle.std.proofs.Common.{refl}
use Rattle.cip_roster.proofs.rosters.Roster.call_heuristics.Goals as goal

pub call_one-requires-clause-sound : goal.call_one-requires-clause-sound
call_one-requires-clause-sound g c = c.requires.sound

pub call_one-requires-clause-fits : goal.call_one-requires-clause-fits
call_one-requires-clause-fits g c = refl

pub returns-clause-sound : goal.returns-clause-sound
returns-clause-sound g c = c.call_one.ensures.sound

pub returns-clause-called : goal.returns-clause-called
returns-clause-called g c = c.call_one.ensures.called

pub returns-clause-err : goal.returns-clause-err
returns-clause-err g c = c.call_one.ensures.err
