use Rattle.std.proofs.lemmas.Grind.{common_steps}
use Rattle.std.proofs.Common.{arith}
use Rattle.cip_dict.proofs.lines.number_at.Goals as goal

pub returns : goal.returns
returns c = grind (arith, common_steps)

pub bounds-row-k : goal.bounds-row-k
bounds-row-k c = grind (arith, common_steps)

pub offset_bounds-row-k : goal.offset_bounds-row-k
offset_bounds-row-k c = grind (arith, common_steps)
