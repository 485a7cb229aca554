use Rattle.std.proofs.lemmas.Grind.{common_steps}
use Rattle.std.proofs.Common.{arith}
use Rattle.cip_guides.proofs.dives.Dive.go.Goals as goal

pub overflow_cast-turn : goal.overflow_cast-turn
overflow_cast-turn c = grind (arith, common_steps)

pub get-requires-in-loop-place : goal.get-requires-in-loop-place
get-requires-in-loop-place c = grind (arith, common_steps)

pub get-requires : goal.get-requires
get-requires c = grind (arith, common_steps)

pub loop-place-preserved : goal.loop-place-preserved
loop-place-preserved c = grind (arith, common_steps)
