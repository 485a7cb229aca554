use Rattle.std.proofs.lemmas.Grind.{common_steps}
use Rattle.std.proofs.Common.{arith}
use Rattle.cip_events.proofs.masks.EventMask.has.Goals as goal

pub bounds-self-place : goal.bounds-self-place
bounds-self-place c = grind (arith, common_steps)
