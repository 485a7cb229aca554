use Rattle.std.proofs.lemmas.Grind.{common_steps}
use Rattle.std.proofs.Common.{arith}
use Rattle.cip_dict.proofs.lines.is_basic.Goals as goal

pub returns : goal.returns
returns c = grind (arith, common_steps)

pub bounds-standing-v : goal.bounds-standing-v
bounds-standing-v c = grind (arith, common_steps)

pub offset_bounds-standing-v : goal.offset_bounds-standing-v
offset_bounds-standing-v c = grind (arith, common_steps)
