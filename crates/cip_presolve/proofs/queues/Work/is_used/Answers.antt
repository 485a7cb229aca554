use Rattle.std.proofs.lemmas.Grind.{common_steps}
use Rattle.std.proofs.Common.{arith}
use Rattle.cip_presolve.proofs.queues.Work.is_used.Goals as goal

pub index-requires : goal.index-requires
index-requires c = grind (arith, common_steps)
