use Rattle.std.proofs.lemmas.Grind.{common_steps}
use Rattle.std.proofs.Common.{arith}
use Rattle.cip_tighten.proofs.column_rows.add_row.Goals as goal

pub get_mut-requires-in-Some-get_mut : goal.get_mut-requires-in-Some-get_mut
get_mut-requires-in-Some-get_mut c = grind (arith, common_steps)

pub bounds-term-items-term-index : goal.bounds-term-items-term-index
bounds-term-items-term-index c = grind (arith, common_steps)

pub offset_bounds-term-items-term-index : goal.offset_bounds-term-items-term-index
offset_bounds-term-items-term-index c = grind (arith, common_steps)

pub get_mut-requires : goal.get_mut-requires
get_mut-requires c = grind (arith, common_steps)

pub get-requires : goal.get-requires
get-requires c = grind (arith, common_steps)
