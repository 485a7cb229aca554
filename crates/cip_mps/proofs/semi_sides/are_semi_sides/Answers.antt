use Rattle.std.proofs.lemmas.Grind.{common_steps}
use Rattle.std.proofs.Common.{arith}
use Rattle.cip_mps.proofs.semi_sides.are_semi_sides.Goals as goal

pub returns-then-is_some : goal.returns-then-is_some
returns-then-is_some c = grind (arith, common_steps)

pub returns-else-is_some : goal.returns-else-is_some
returns-else-is_some c = grind (arith, common_steps)
