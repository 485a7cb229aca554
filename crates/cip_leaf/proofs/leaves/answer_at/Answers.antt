use Rattle.std.proofs.lemmas.Grind.{common_steps}
use Rattle.std.proofs.Common.{◌≡◌, length, refl, sym, subst, arith}
use Rattle.cip_problem.specs.LinearProgram.{LinearProgram}
use Rattle.cip_bland.specs.NoRepeat.{whole_answer}
use Rattle.cip_bland.proofs.ListEnds.{answers_end}
use Rattle.cip_simplex.specs.LpAnswers.{IsAnswer}
use Rattle.cip_simplex.specs.LpShape.{IsSolvable}
use Rattle.cip_search.specs.LeafProgram.{program_of_leaf}
use Rattle.cip_search.proofs.Merged.{leaf_proper}
use Rattle.cip_leaf.specs.LeafAnswers.{EndsInOptimum, EndsOutOfRange}
use Rattle.cip_leaf.proofs.Answered.{leaf_solvable, optimum_of, no_point_of, ray_of, moves_of, never_limit}
use Rattle.cip_leaf.proofs.leaves.answer_at.Goals as goal

pub optimum-requires-clause-end : goal.optimum-requires-clause-end
optimum-requires-clause-end c =
    let program = c.args.program.now in
    let wholes = c.args.wholes.now in
    let answer = whole_answer (program_of_leaf program wholes) in
    subst (EndsInOptimum program wholes) (sym c.as_slice.ensures.value)
    (optimum_of program wholes answer c.in-Optimal.point c.in-Optimal.combo c.in-Optimal.cost refl (subst (IsAnswer answer) c.in-Optimal.is c.requires.end))

pub returns-in-Infeasible : goal.returns-in-Infeasible
returns-in-Infeasible c =
    let program = c.args.program.now in
    let wholes = c.args.wholes.now in
    no_point_of program wholes c.in-Infeasible.combo c.requires.formed (subst (IsAnswer (whole_answer (program_of_leaf program wholes))) c.in-Infeasible.is c.requires.end)

pub endless-requires-clause-end : goal.endless-requires-clause-end
endless-requires-clause-end c =
    let program = c.args.program.now in
    let wholes = c.args.wholes.now in
    let answer = whole_answer (program_of_leaf program wholes) in
    rw (c.as_slice-in-Unbounded.ensures.value, c.as_slice-in-Unbounded-2.ensures.value) (ray_of program wholes answer c.in-Unbounded.point c.in-Unbounded.ray refl (subst (IsAnswer answer) c.in-Unbounded.is c.requires.end))

pub out_of_range-requires-clause-solvable : goal.out_of_range-requires-clause-solvable
out_of_range-requires-clause-solvable c = subst IsSolvable (sym c.requires.parts) (leaf_solvable c.args.program.now c.args.wholes.now c.requires.formed)

pub out_of_range-requires-clause-end : goal.out_of_range-requires-clause-end
out_of_range-requires-clause-end c =
    let linear = program_of_leaf c.args.program.now c.args.wholes.now in
    let count : length c.in-Wide.moves.items ≡ c.len.result = omega (arith, c.len.ensures, c.in-Wide.moves.ok.0) in
    let moves = moves_of linear (whole_answer linear) c.in-Wide.moves refl (subst (IsAnswer (whole_answer linear)) c.in-Wide.is c.requires.end) in
    subst (λ (p : LinearProgram). EndsOutOfRange p c.len.result) (sym c.requires.parts) (subst (EndsOutOfRange linear) count moves)

pub unreachable-requires : goal.unreachable-requires
unreachable-requires c =
    let program = c.args.program.now in
    let wholes = c.args.wholes.now in
    let linear = program_of_leaf program wholes in
    never_limit linear (whole_answer linear) refl (answers_end linear (leaf_proper program wholes c.requires.formed)).ends (subst (IsAnswer (whole_answer linear)) c.in-Limit.is c.requires.end)

pub returns-in-Wide : goal.returns-in-Wide
returns-in-Wide c = grind (arith, common_steps)

pub returns-in-Unbounded : goal.returns-in-Unbounded
returns-in-Unbounded c = grind (arith, common_steps)

pub optimum-requires-clause-leaf : goal.optimum-requires-clause-leaf
optimum-requires-clause-leaf c = grind (arith, common_steps)

pub returns-in-Optimal : goal.returns-in-Optimal
returns-in-Optimal c = grind (arith, common_steps)

pub endless-requires-clause-leaf : goal.endless-requires-clause-leaf
endless-requires-clause-leaf c = grind (arith, common_steps)
