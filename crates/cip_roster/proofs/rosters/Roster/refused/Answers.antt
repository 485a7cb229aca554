use Rattle.cip_roster.proofs.rosters.Roster.refused.Goals as goal

pub refused-requires-clause-sound : goal.refused-requires-clause-sound
refused-requires-clause-sound g c = c.requires.sound

pub refused-requires-clause-seat : goal.refused-requires-clause-seat
refused-requires-clause-seat g c = c.requires.seat

pub returns-clause-sound : goal.returns-clause-sound
returns-clause-sound g c = c.refused.ensures.sound

pub returns-clause-noted : goal.returns-clause-noted
returns-clause-noted g c = c.refused.ensures.noted

pub returns-clause-same : goal.returns-clause-same
returns-clause-same g c = c.refused.ensures.same
