use Rattle.std.proofs.lemmas.Grind.{common_steps}
use Rattle.std.proofs.Common.{sym, subst, arith}
use Rattle.cip_problem.specs.LinearProgram.{LinearProgram, HasNoPoint}
use Rattle.cip_simplex.specs.LpShape.{IsSolvable}
use Rattle.cip_search.specs.LeafProgram.{at_continuous, program_of_leaf}
use Rattle.cip_search.proofs.Merged.{point_on}
use Rattle.cip_leaf.proofs.Answered.{leaf_solvable}
use Rattle.cip_leaf.proofs.by_basis.shown_by_basis.Goals as goal

pub shown_of-requires : goal.shown_of-requires
shown_of-requires c = subst IsSolvable (sym c.requires.parts) (leaf_solvable c.args.program.now c.args.leaf.now c.requires.formed)

pub returns-in-Some-Empty : goal.returns-in-Some-Empty
returns-in-Some-Empty c point k =
    let found = rw c.in-Some-Empty.is at c.in_ok-point.ensures in
    let empty = rw c.in-Some-Empty.field-0-is at found in
    let none : HasNoPoint (program_of_leaf c.args.program.now c.args.leaf.now) = subst (λ (p : LinearProgram). HasNoPoint p) c.requires.parts empty in
    none (at_continuous c.args.program.now.integral point) (point_on c.args.program.now c.args.leaf.now point c.requires.formed k).is_point

pub best_of-requires-clause-optimal : goal.best_of-requires-clause-optimal
best_of-requires-clause-optimal c = grind (arith, common_steps)

pub best_of-requires-clause-leaf : goal.best_of-requires-clause-leaf
best_of-requires-clause-leaf c = grind (arith, common_steps)

pub returns-in-Some-Optimal : goal.returns-in-Some-Optimal
returns-in-Some-Optimal c = grind (arith, common_steps)

pub returns-in-None : goal.returns-in-None
returns-in-None c = grind (arith, common_steps)
