use Rattle.std.proofs.lemmas.Grind.{common_steps}
use Rattle.std.proofs.Common.{arith}
use Rattle.cip_tighten.proofs.sums.Sum.turn.Goals as goal

pub offset_bounds-term-items-term-index : goal.offset_bounds-term-items-term-index
offset_bounds-term-items-term-index c = grind (arith, common_steps)

pub offset_bounds-used-items-used-index : goal.offset_bounds-used-items-used-index
offset_bounds-used-items-used-index c = grind (arith, common_steps)
