use Rattle.std.proofs.lemmas.Grind.{common_steps}
use Rattle.std.proofs.Common.{arith}
use Rattle.cip_bland.proofs.MovesMade.{outside_basic}
use Rattle.cip_simplex.proofs.ends.end_answer.Goals as goal

pub row_combo-requires-clause-leaving : goal.row_combo-requires-clause-leaving
row_combo-requires-clause-leaving c =
    let h = rw c.in-Infeasible.is at c.requires.is_end in
    h.outside.within

pub row_combo-requires-clause-basic : goal.row_combo-requires-clause-basic
row_combo-requires-clause-basic c =
    let h = rw c.in-Infeasible.is at c.requires.is_end in
    outside_basic c.args.dict.now c.in-Infeasible.i h.outside.passes

pub ray_answer-requires-clause-entering : goal.ray_answer-requires-clause-entering
ray_answer-requires-clause-entering c =
    let h = rw c.in-Ray.is at c.requires.is_end in
    h.improving.within

pub returns-in_ok-combo-in-Optimum : goal.returns-in_ok-combo-in-Optimum
returns-in_ok-combo-in-Optimum c = grind (arith, common_steps)

pub returns-in-Ray : goal.returns-in-Ray
returns-in-Ray c = grind (arith, common_steps)

pub returns-in_ok-combo-in-Crossed : goal.returns-in_ok-combo-in-Crossed
returns-in_ok-combo-in-Crossed c = grind (arith, common_steps)

pub returns-in_ok-combo-in-Infeasible : goal.returns-in_ok-combo-in-Infeasible
returns-in_ok-combo-in-Infeasible c = grind (arith, common_steps)

pub cost_combo-requires-clause-variables : goal.cost_combo-requires-clause-variables
cost_combo-requires-clause-variables c = grind (arith, common_steps)

pub returns-in-Makes : goal.returns-in-Makes
returns-in-Makes c = grind (arith, common_steps)

pub cost_combo-requires-clause-few : goal.cost_combo-requires-clause-few
cost_combo-requires-clause-few c = grind (arith, common_steps)

pub row_combo-requires-clause-variables : goal.row_combo-requires-clause-variables
row_combo-requires-clause-variables c = grind (arith, common_steps)

pub ray_answer-requires-clause-few : goal.ray_answer-requires-clause-few
ray_answer-requires-clause-few c = grind (arith, common_steps)

pub row_combo-requires-clause-few : goal.row_combo-requires-clause-few
row_combo-requires-clause-few c = grind (arith, common_steps)

pub ray_answer-requires-clause-within : goal.ray_answer-requires-clause-within
ray_answer-requires-clause-within c = grind (arith, common_steps)

pub values_of-requires-clause-few : goal.values_of-requires-clause-few
values_of-requires-clause-few c = grind (arith, common_steps)

pub crossed_combo-requires : goal.crossed_combo-requires
crossed_combo-requires c = grind (arith, common_steps)

pub values_of-requires-clause-within : goal.values_of-requires-clause-within
values_of-requires-clause-within c = grind (arith, common_steps)
