use Rattle.std.proofs.lemmas.Grind.{common_steps}
use Rattle.std.proofs.Common.{arith}
use Rattle.cip_blocks.proofs.owners.Owners.has_open.Goals as goal

pub bounds-bounds-column : goal.bounds-bounds-column
bounds-bounds-column c = grind (arith, common_steps)

pub loop-column-preserved : goal.loop-column-preserved
loop-column-preserved c = grind (arith, common_steps)

pub returns : goal.returns
returns c = grind (arith, common_steps)

pub returns-then-is_open : goal.returns-then-is_open
returns-then-is_open c = grind (arith, common_steps)

pub index-requires : goal.index-requires
index-requires c = grind (arith, common_steps)

pub offset_bounds-bounds-column : goal.offset_bounds-bounds-column
offset_bounds-bounds-column c = grind (arith, common_steps)
