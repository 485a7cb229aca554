use Rattle.std.proofs.lemmas.Grind.{common_steps}
use Rattle.std.proofs.Common.{arith}
use Rattle.cip_guides.proofs.rounding.RoundHeuristicPlugin.init_solve.Goals as goal

pub returns : goal.returns
returns c = grind (arith, common_steps)

pub offset_bounds-row-items-row-index : goal.offset_bounds-row-items-row-index
offset_bounds-row-items-row-index c = grind (arith, common_steps)
