use Rattle.std.proofs.lemmas.Grind.{common_steps}
use Rattle.std.proofs.Common.{arith}
use Rattle.cip_cert.proofs.resting.rests_on_cutoff.Goals as goal

pub loop-multiple-preserved : goal.loop-multiple-preserved
loop-multiple-preserved c = grind (arith, common_steps)

pub returns : goal.returns
returns c = grind (arith, common_steps)

pub returns-then-names_resting : goal.returns-then-names_resting
returns-then-names_resting c = grind (arith, common_steps)

pub offset_bounds-multiple-items-multiple-index : goal.offset_bounds-multiple-items-multiple-index
offset_bounds-multiple-items-multiple-index c = grind (arith, common_steps)
