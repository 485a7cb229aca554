use Rattle.std.proofs.lemmas.Grind.{common_steps}
use Rattle.std.proofs.Common.{arith}
use Rattle.cip_lin.proofs.boxes.Bounds.inside.Goals as goal

pub is_box_inside-requires : goal.is_box_inside-requires
is_box_inside-requires c = grind (arith, common_steps)

pub returns : goal.returns
returns c = grind (arith, common_steps)
