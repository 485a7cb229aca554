use Rattle.std.proofs.lemmas.Grind.{common_steps}
use Rattle.std.proofs.Common.{arith}
use Rattle.cip_handlers.proofs.classes.list_rows.Goals as goal

pub bounds-row-items-number : goal.bounds-row-items-number
bounds-row-items-number c = grind (arith, common_steps)

pub offset_bounds-row-items-number : goal.offset_bounds-row-items-number
offset_bounds-row-items-number c = grind (arith, common_steps)
