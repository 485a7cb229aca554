use Rattle.std.proofs.lemmas.Grind.{common_steps}
use Rattle.std.proofs.Common.{arith}
use Rattle.cip_roster.proofs.slots.Slot.turn.Goals as goal

pub returns-clause-stage : goal.returns-clause-stage
returns-clause-stage c = grind (arith, common_steps)

pub returns-clause-turned : goal.returns-clause-turned
returns-clause-turned c = grind (arith, common_steps)
