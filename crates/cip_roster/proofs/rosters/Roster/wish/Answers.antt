use Rattle.std.proofs.lemmas.Grind.{common_steps}
use Rattle.std.proofs.Common.{arith}
use Rattle.cip_roster.proofs.rosters.Roster.wish.Goals as goal

pub returns-clause-sound : goal.returns-clause-sound
returns-clause-sound g c = c.wish.ensures.sound

pub returns-clause-came : goal.returns-clause-came
returns-clause-came g c = c.wish.ensures.came

pub returns-clause-queue : goal.returns-clause-queue
returns-clause-queue g c = c.wish.ensures.queue

pub wish-requires : goal.wish-requires
wish-requires g c = grind (arith, common_steps)
