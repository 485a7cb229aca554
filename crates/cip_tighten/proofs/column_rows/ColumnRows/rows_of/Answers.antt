use Rattle.std.proofs.lemmas.Grind.{common_steps}
use Rattle.std.proofs.Common.{arith}
use Rattle.cip_tighten.proofs.column_rows.ColumnRows.rows_of.Goals as goal

pub get-requires : goal.get-requires
get-requires c = grind (arith, common_steps)

pub get-requires-3 : goal.get-requires-3
get-requires-3 c = grind (arith, common_steps)

pub get-requires-2 : goal.get-requires-2
get-requires-2 c = grind (arith, common_steps)
