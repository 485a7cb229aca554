use Rattle.std.proofs.lemmas.Grind.{common_steps}
use Rattle.std.proofs.Common.{arith}
use Rattle.cip_basis.proofs.systems.System.reduce_rests.Goals as goal

pub offset_bounds-rest-items-rest-index : goal.offset_bounds-rest-items-rest-index
offset_bounds-rest-items-rest-index c = grind (arith, common_steps)

pub loop-rest-preserved : goal.loop-rest-preserved
loop-rest-preserved c = grind (arith, common_steps)
