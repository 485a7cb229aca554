use Rattle.std.proofs.lemmas.Grind.{common_steps}
use Rattle.std.proofs.Common.{arith}
use Rattle.cip_mps.proofs.group_rows.count_near.Goals as goal

pub returns : goal.returns
returns c = grind (arith, common_steps)

pub offset_bounds-near-number-index : goal.offset_bounds-near-number-index
offset_bounds-near-number-index c = grind (arith, common_steps)
