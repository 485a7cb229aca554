use Rattle.std.proofs.lemmas.Grind.{common_steps}
use Rattle.std.proofs.Common.{arith}
use Rattle.cip_roster.proofs.slots.SlotSits.is_to_hear.Goals as goal

pub returns-else-is_ready : goal.returns-else-is_ready
returns-else-is_ready c = grind (arith, common_steps)

pub kind-requires : goal.kind-requires
kind-requires c = grind (arith, common_steps)

pub is_ready-requires : goal.is_ready-requires
is_ready-requires c = grind (arith, common_steps)
