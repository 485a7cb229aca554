use Rattle.std.proofs.lemmas.Grind.{common_steps}
use Rattle.std.proofs.Common.{arith}
use Rattle.cip_tighten.proofs.column_rows.add_rows.Goals as goal

pub bounds-own-number : goal.bounds-own-number
bounds-own-number c = grind (arith, common_steps)

pub offset_bounds-own-number : goal.offset_bounds-own-number
offset_bounds-own-number c = grind (arith, common_steps)
