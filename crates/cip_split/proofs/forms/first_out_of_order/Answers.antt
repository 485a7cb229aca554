use Rattle.std.proofs.lemmas.Grind.{common_steps}
use Rattle.std.proofs.Common.{arith}
use Rattle.cip_split.proofs.forms.first_out_of_order.Goals as goal

pub loop-at-preserved : goal.loop-at-preserved
loop-at-preserved c = grind (arith, common_steps)

pub returns-then-is_out_of_order : goal.returns-then-is_out_of_order
returns-then-is_out_of_order c = grind (arith, common_steps)

pub returns : goal.returns
returns c = grind (arith, common_steps)

pub bounds-form-at : goal.bounds-form-at
bounds-form-at c = grind (arith, common_steps)

pub offset_bounds-form-at : goal.offset_bounds-form-at
offset_bounds-form-at c = grind (arith, common_steps)
