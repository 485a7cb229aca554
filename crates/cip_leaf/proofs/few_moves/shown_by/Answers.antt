use Rattle.std.proofs.lemmas.Grind.{common_steps}
use Rattle.std.proofs.Common.{arith}
use Rattle.cip_problem.specs.LinearProgram.{HasNoPoint}
use Rattle.cip_simplex.specs.Reached.{Holds}
use Rattle.cip_simplex.specs.declared.answers.LpAnswer.TheVariants.{Infeasible}
use Rattle.cip_search.specs.LeafProgram.{at_continuous, program_of_leaf}
use Rattle.cip_search.proofs.Merged.{point_on}
use Rattle.cip_leaf.proofs.few_moves.shown_by.Goals as goal

pub returns-in-Infeasible : goal.returns-in-Infeasible
returns-in-Infeasible c point k =
    let linear = program_of_leaf c.args.program.now c.args.leaf.now in
    let e : Holds linear (Infeasible c.in-Infeasible.combo) = rw c.in-Infeasible.is at c.requires.found in
    let none : HasNoPoint linear = e.right.no_point in
    none (at_continuous c.args.program.now.integral point) (point_on c.args.program.now c.args.leaf.now point c.requires.formed k).is_point

pub best_of-requires-clause-optimal : goal.best_of-requires-clause-optimal
best_of-requires-clause-optimal c = grind (arith, common_steps)

pub ray_of-requires-clause-point : goal.ray_of-requires-clause-point
ray_of-requires-clause-point c = grind (arith, common_steps)

pub returns-in-Unbounded : goal.returns-in-Unbounded
returns-in-Unbounded c = grind (arith, common_steps)

pub best_of-requires-clause-leaf : goal.best_of-requires-clause-leaf
best_of-requires-clause-leaf c = grind (arith, common_steps)

pub returns-in-Optimal : goal.returns-in-Optimal
returns-in-Optimal c = grind (arith, common_steps)

pub ray_of-requires-clause-leaf : goal.ray_of-requires-clause-leaf
ray_of-requires-clause-leaf c = grind (arith, common_steps)
