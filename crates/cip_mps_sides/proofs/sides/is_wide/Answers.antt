use Rattle.std.proofs.lemmas.Grind.{common_steps}
use Rattle.std.proofs.Common.{arith}
use Rattle.cip_mps_sides.proofs.sides.is_wide.Goals as goal

pub returns-then-not-is_free_kind : goal.returns-then-not-is_free_kind
returns-then-not-is_free_kind c = grind (arith, common_steps)

pub returns-else-not-is_free_kind : goal.returns-else-not-is_free_kind
returns-else-not-is_free_kind c = grind (arith, common_steps)

pub returns-in-None : goal.returns-in-None
returns-in-None c = grind (arith, common_steps)
