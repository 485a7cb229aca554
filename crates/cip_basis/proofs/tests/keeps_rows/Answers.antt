use Rattle.std.proofs.lemmas.Grind.{common_steps}
use Rattle.std.proofs.Common.{arith}
use Rattle.cip_basis.proofs.tests.keeps_rows.Goals as goal

pub returns-then-not-keeps_row : goal.returns-then-not-keeps_row
returns-then-not-keeps_row c = grind (arith, common_steps)

pub loop-at-preserved : goal.loop-at-preserved
loop-at-preserved c = grind (arith, common_steps)

pub keeps_row-requires : goal.keeps_row-requires
keeps_row-requires c = grind (arith, common_steps)

pub returns : goal.returns
returns c = grind (arith, common_steps)

pub bounds-rows-at : goal.bounds-rows-at
bounds-rows-at c = grind (arith, common_steps)

pub offset_bounds-rows-at : goal.offset_bounds-rows-at
offset_bounds-rows-at c = grind (arith, common_steps)
