use Rattle.std.proofs.lemmas.Grind.{common_steps}
use Rattle.std.proofs.Common.{arith}
use Rattle.cip_node.proofs.starts.Starts.leave.Goals as goal

pub index_mut-requires-then-is_last : goal.index_mut-requires-then-is_last
index_mut-requires-then-is_last c = grind (arith, common_steps)

pub index_mut-requires : goal.index_mut-requires
index_mut-requires c = grind (arith, common_steps)
