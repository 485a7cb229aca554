use Rattle.std.proofs.lemmas.Grind.{common_steps}
use Rattle.std.proofs.Common.{arith}
use Rattle.cip_tighten.proofs.activities.ActivityPropagator.narrow.Goals as goal

pub loop-source-preserved : goal.loop-source-preserved
loop-source-preserved c = grind (arith, common_steps)

pub bounds-source-items-source-index : goal.bounds-source-items-source-index
bounds-source-items-source-index c = grind (arith, common_steps)
