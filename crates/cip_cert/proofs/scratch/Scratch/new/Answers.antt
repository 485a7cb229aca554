use Rattle.std.proofs.lemmas.Grind.{common_steps}
use Rattle.std.proofs.Common.{arith}
use Rattle.cip_cert.proofs.scratch.Scratch.new.Goals as goal

pub same-row : goal.same-row
same-row c = grind (arith, common_steps)
