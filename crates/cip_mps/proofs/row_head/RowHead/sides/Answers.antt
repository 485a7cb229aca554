use Rattle.std.proofs.lemmas.Grind.{common_steps}
use Rattle.std.proofs.Common.{arith}
use Rattle.cip_mps.proofs.row_head.RowHead.sides.Goals as goal

pub returns : goal.returns
returns c = grind (arith, common_steps)

pub returns-then-is_free_kind : goal.returns-then-is_free_kind
returns-then-is_free_kind c = grind (arith, common_steps)

pub row_sides-requires-clause-fits : goal.row_sides-requires-clause-fits
row_sides-requires-clause-fits c = grind (arith, common_steps)

pub row_sides-requires-clause-kept : goal.row_sides-requires-clause-kept
row_sides-requires-clause-kept c = grind (arith, common_steps)
