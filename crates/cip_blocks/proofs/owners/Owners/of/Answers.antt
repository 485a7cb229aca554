use Rattle.std.proofs.lemmas.Grind.{common_steps}
use Rattle.std.proofs.Common.{arith}
use Rattle.cip_blocks.proofs.owners.Owners.of.Goals as goal

pub bounds-row_blocks-at : goal.bounds-row_blocks-at
bounds-row_blocks-at c = grind (arith, common_steps)

pub bounds-rows-at : goal.bounds-rows-at
bounds-rows-at c = omega arith

pub loop-at-init : goal.loop-at-init
loop-at-init c = grind (arith, common_steps)

pub loop-at-preserved : goal.loop-at-preserved
loop-at-preserved c = grind (arith, common_steps)

pub returns-clause-owned : goal.returns-clause-owned
returns-clause-owned c = grind (arith, common_steps)

pub take_row-requires : goal.take_row-requires
take_row-requires c = grind (arith, common_steps)

pub offset_bounds-rows-at : goal.offset_bounds-rows-at
offset_bounds-rows-at c = grind (arith, common_steps)

pub offset_bounds-row_blocks-at : goal.offset_bounds-row_blocks-at
offset_bounds-row_blocks-at c = grind (arith, common_steps)

pub returns-clause-sized : goal.returns-clause-sized
returns-clause-sized c = grind (arith, common_steps)

pub returns-clause-formed : goal.returns-clause-formed
returns-clause-formed c = grind (arith, common_steps)
