use Rattle.std.proofs.lemmas.Grind.{common_steps}
use Rattle.std.proofs.Common.{arith}
use Rattle.cip_roster.proofs.wishing.wish.Goals as goal

pub returns-in-Include-clause-sound : goal.returns-in-Include-clause-sound
returns-in-Include-clause-sound g c = c.include.ensures.sound

pub returns-in-Disable-clause-sound : goal.returns-in-Disable-clause-sound
returns-in-Disable-clause-sound g c = c.switch.ensures.sound

pub returns-in-Enable-clause-sound : goal.returns-in-Enable-clause-sound
returns-in-Enable-clause-sound g c = c.switch-in-Enable.ensures.sound

pub returns-in-Free-clause-sound : goal.returns-in-Free-clause-sound
returns-in-Free-clause-sound g c = c.free.ensures.sound

pub returns-in-Priority-clause-sound : goal.returns-in-Priority-clause-sound
returns-in-Priority-clause-sound g c = c.rank.ensures.sound

pub returns-in-Include-clause-came : goal.returns-in-Include-clause-came
returns-in-Include-clause-came g c = rw c.in-Include.is c.include.ensures.came

pub returns-in-Disable-clause-came : goal.returns-in-Disable-clause-came
returns-in-Disable-clause-came g c = rw c.in-Disable.is c.switch.ensures.came

pub returns-in-Enable-clause-came : goal.returns-in-Enable-clause-came
returns-in-Enable-clause-came g c = rw c.in-Enable.is c.switch-in-Enable.ensures.came

pub returns-in-Free-clause-came : goal.returns-in-Free-clause-came
returns-in-Free-clause-came g c = rw c.in-Free.is c.free.ensures.came

pub returns-in-Include-clause-queue : goal.returns-in-Include-clause-queue
returns-in-Include-clause-queue g c = rw c.in-Include.is c.include.ensures.queue

pub returns-in-Free-clause-queue : goal.returns-in-Free-clause-queue
returns-in-Free-clause-queue g c = rw c.in-Free.is c.free.ensures.queue

pub returns-in-Disable-clause-queue : goal.returns-in-Disable-clause-queue
returns-in-Disable-clause-queue g c = grind (arith, common_steps)

pub returns-in-Enable-clause-queue : goal.returns-in-Enable-clause-queue
returns-in-Enable-clause-queue g c = grind (arith, common_steps)

pub returns-in-Priority-clause-came : goal.returns-in-Priority-clause-came
returns-in-Priority-clause-came g c = grind (arith, common_steps)

pub returns-in-Priority-clause-queue : goal.returns-in-Priority-clause-queue
returns-in-Priority-clause-queue g c = grind (arith, common_steps)

pub free-requires : goal.free-requires
free-requires g c = grind (arith, common_steps)

pub include-requires : goal.include-requires
include-requires g c = grind (arith, common_steps)

pub rank-requires : goal.rank-requires
rank-requires g c = grind (arith, common_steps)

pub switch-requires-in-Enable : goal.switch-requires-in-Enable
switch-requires-in-Enable g c = grind (arith, common_steps)

pub switch-requires : goal.switch-requires
switch-requires g c = grind (arith, common_steps)
