use Rattle.std.proofs.lemmas.Grind.{common_steps}
use Rattle.std.proofs.Common.{arith}
use Rattle.cip_rows.proofs.built.are_same_terms.Goals as goal

pub returns-then-not-is_same_term : goal.returns-then-not-is_same_term
returns-then-not-is_same_term c = grind (arith, common_steps)

pub returns : goal.returns
returns c = grind (arith, common_steps)

pub returns-then-a-b : goal.returns-then-a-b
returns-then-a-b c = grind (arith, common_steps)

pub loop-at-preserved : goal.loop-at-preserved
loop-at-preserved c = grind (arith, common_steps)

pub bounds-b-at : goal.bounds-b-at
bounds-b-at c = grind (arith, common_steps)

pub bounds-a-at : goal.bounds-a-at
bounds-a-at c = grind (arith, common_steps)

pub offset_bounds-b-at : goal.offset_bounds-b-at
offset_bounds-b-at c = grind (arith, common_steps)

pub offset_bounds-a-at : goal.offset_bounds-a-at
offset_bounds-a-at c = grind (arith, common_steps)

pub loop-at-init : goal.loop-at-init
loop-at-init c = grind (arith, common_steps)
