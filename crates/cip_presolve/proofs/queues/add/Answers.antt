use Rattle.std.proofs.lemmas.Grind.{common_steps}
use Rattle.std.proofs.Common.{arith}
use Rattle.cip_presolve.proofs.queues.add.Goals as goal

pub index_mut-requires : goal.index_mut-requires
index_mut-requires c = omega arith

pub index-requires : goal.index-requires
index-requires c = grind (arith, common_steps)
