use Rattle.std.proofs.lemmas.Grind.{common_steps}
use Rattle.std.proofs.Common.{arith}
use Rattle.cip_basis.proofs.variables.Variables.take_sides.Goals as goal

pub bounds-item-items-number : goal.bounds-item-items-number
bounds-item-items-number c = grind (arith, common_steps)

pub offset_bounds-item-items-number : goal.offset_bounds-item-items-number
offset_bounds-item-items-number c = grind (arith, common_steps)

pub overflow_sub-fixed_side : goal.overflow_sub-fixed_side
overflow_sub-fixed_side c = grind (arith, common_steps)
