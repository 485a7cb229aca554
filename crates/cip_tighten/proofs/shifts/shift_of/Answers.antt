use Rattle.std.proofs.lemmas.Grind.{common_steps}
use Rattle.std.proofs.Common.{arith}
use Rattle.cip_tighten.proofs.shifts.shift_of.Goals as goal

pub same-sides : goal.same-sides
same-sides c = grind (arith, common_steps)
