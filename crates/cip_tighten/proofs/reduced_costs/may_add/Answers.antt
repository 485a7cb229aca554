use Rattle.std.proofs.lemmas.Grind.{common_steps}
use Rattle.std.proofs.Common.{arith}
use Rattle.cip_tighten.proofs.reduced_costs.may_add.Goals as goal

pub offset_bounds-multiple-items-multiple-index : goal.offset_bounds-multiple-items-multiple-index
offset_bounds-multiple-items-multiple-index c = grind (arith, common_steps)
