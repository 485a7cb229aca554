use Rattle.std.proofs.lemmas.Grind.{common_steps}
use Rattle.std.proofs.Common.{arith}
use Rattle.cip_guides.proofs.shares.Share.begin.Goals as goal

pub offset_bounds-own-row-index : goal.offset_bounds-own-row-index
offset_bounds-own-row-index c = grind (arith, common_steps)
