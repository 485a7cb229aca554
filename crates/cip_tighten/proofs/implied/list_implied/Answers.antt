use Rattle.std.proofs.lemmas.Grind.{common_steps}
use Rattle.std.proofs.Common.{arith}
use Rattle.cip_tighten.proofs.implied.list_implied.Goals as goal

pub offset_bounds-term-items-term-index : goal.offset_bounds-term-items-term-index
offset_bounds-term-items-term-index c = grind (arith, common_steps)

pub bounds-term-items-term-index : goal.bounds-term-items-term-index
bounds-term-items-term-index c = grind (arith, common_steps)
