use Rattle.std.proofs.lemmas.Grind.{common_steps}
use Rattle.std.proofs.Common.{arith}
use Rattle.cip_basis.proofs.tests.keeps_box.Goals as goal

pub loop-at-preserved : goal.loop-at-preserved
loop-at-preserved c = grind (arith, common_steps)

pub returns-then-not-contains : goal.returns-then-not-contains
returns-then-not-contains c = grind (arith, common_steps)

pub returns : goal.returns
returns c = grind (arith, common_steps)

pub bounds-point-at : goal.bounds-point-at
bounds-point-at c = grind (arith, common_steps)

pub bounds-sides-at : goal.bounds-sides-at
bounds-sides-at c = grind (arith, common_steps)

pub offset_bounds-point-at : goal.offset_bounds-point-at
offset_bounds-point-at c = grind (arith, common_steps)

pub offset_bounds-sides-at : goal.offset_bounds-sides-at
offset_bounds-sides-at c = grind (arith, common_steps)
