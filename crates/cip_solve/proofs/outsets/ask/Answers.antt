use Rattle.cip_solve.proofs.outsets.ask.Goals as goal

pub returns-clause-begun : goal.returns-clause-begun
returns-clause-begun g c = c.begin.ensures.begun

pub returns-clause-err : goal.returns-clause-err
returns-clause-err g c = c.begin.ensures.err

pub returns-clause-room : goal.returns-clause-room
returns-clause-room g c = c.begin.ensures.room

pub returns-clause-sound : goal.returns-clause-sound
returns-clause-sound g c = c.begin.ensures.sound
