use Rattle.std.proofs.lemmas.Grind.{common_steps}
use Rattle.std.proofs.Common.{arith}
use Rattle.cip_events.proofs.masks.EventMask.with.Goals as goal

pub bounds-wanted-place : goal.bounds-wanted-place
bounds-wanted-place c = grind (arith, common_steps)
