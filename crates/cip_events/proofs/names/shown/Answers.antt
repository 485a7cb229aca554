use Rattle.std.proofs.lemmas.Grind.{common_steps}
use Rattle.std.proofs.Common.{arith}
use Rattle.cip_events.proofs.names.shown.Goals as goal

pub returns-then-byte-le126 : goal.returns-then-byte-le126
returns-then-byte-le126 c = grind (arith, common_steps)
