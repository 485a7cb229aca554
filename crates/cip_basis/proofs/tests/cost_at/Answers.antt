use Rattle.std.proofs.lemmas.Grind.{common_steps}
use Rattle.std.proofs.Common.{arith}
use Rattle.cip_basis.proofs.tests.cost_at.Goals as goal

pub loop-at-preserved : goal.loop-at-preserved
loop-at-preserved c = grind (arith, common_steps)

pub returns-then-not-add_product : goal.returns-then-not-add_product
returns-then-not-add_product c = grind (arith, common_steps)

pub bounds-point-at-then-not-add_product : goal.bounds-point-at-then-not-add_product
bounds-point-at-then-not-add_product c = grind (arith, common_steps)

pub returns : goal.returns
returns c = grind (arith, common_steps)

pub loop-at-init : goal.loop-at-init
loop-at-init c = grind (arith, common_steps)

pub offset_bounds-point-at-then-not-add_product : goal.offset_bounds-point-at-then-not-add_product
offset_bounds-point-at-then-not-add_product c = grind (arith, common_steps)

pub offset_bounds-costs-at-then-not-add_product : goal.offset_bounds-costs-at-then-not-add_product
offset_bounds-costs-at-then-not-add_product c = grind (arith, common_steps)

pub bounds-point-at : goal.bounds-point-at
bounds-point-at c = grind (arith, common_steps)

pub bounds-costs-at : goal.bounds-costs-at
bounds-costs-at c = grind (arith, common_steps)

pub offset_bounds-point-at : goal.offset_bounds-point-at
offset_bounds-point-at c = grind (arith, common_steps)

pub offset_bounds-costs-at : goal.offset_bounds-costs-at
offset_bounds-costs-at c = grind (arith, common_steps)
