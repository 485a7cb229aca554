use Rattle.std.proofs.lemmas.Grind.{common_steps}
use Rattle.std.proofs.Common.{arith}
use Rattle.cip_node.proofs.starts.Starts.are_too_many.Goals as goal

pub nonzero_div-saturating_add : goal.nonzero_div-saturating_add
nonzero_div-saturating_add c = grind (arith, common_steps)
