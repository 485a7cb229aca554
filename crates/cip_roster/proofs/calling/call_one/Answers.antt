use Rattle.cip_roster.proofs.calling.call_one.Goals as goal

pub call_kind-requires-clause-sound : goal.call_kind-requires-clause-sound
call_kind-requires-clause-sound g c = c.requires.sound

pub call_kind-requires-clause-fits : goal.call_kind-requires-clause-fits
call_kind-requires-clause-fits g c = c.requires.fits

pub returns-in-Ok-clause-sound : goal.returns-in-Ok-clause-sound
returns-in-Ok-clause-sound g c = c.call_kind.ensures.sound

pub returns-in-Err-clause-sound : goal.returns-in-Err-clause-sound
returns-in-Err-clause-sound g c = c.call_kind.ensures.sound

pub returns-in-Ok-clause-err : goal.returns-in-Ok-clause-err
returns-in-Ok-clause-err g c = tt

pub returns-in-Err-clause-called : goal.returns-in-Err-clause-called
returns-in-Err-clause-called g c = tt

pub returns-in-Err-clause-err : goal.returns-in-Err-clause-err
returns-in-Err-clause-err g c = c.in-Err.ensures.err

pub returns-in-Ok-clause-called : goal.returns-in-Ok-clause-called
returns-in-Ok-clause-called g c = rw c.new-given.ensures.items at c.in-Ok.ensures.called
