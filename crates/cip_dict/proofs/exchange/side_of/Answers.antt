use Rattle.std.proofs.lemmas.Grind.{common_steps}
use Rattle.std.proofs.Common.{arith}
use Rattle.cip_dict.proofs.exchange.side_of.Goals as goal

pub returns : goal.returns
returns c = grind (arith, common_steps)

pub bounds-sides-v : goal.bounds-sides-v
bounds-sides-v c = grind (arith, common_steps)

pub offset_bounds-sides-v : goal.offset_bounds-sides-v
offset_bounds-sides-v c = grind (arith, common_steps)
