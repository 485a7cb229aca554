use Rattle.std.proofs.lemmas.Grind.{common_steps}
use Rattle.std.proofs.Common.{◌≡◌, ◌∙◌, sym, subst, arith}
use Rattle.cip_problem.specs.LinearProgram.{LinearProgram}
use Rattle.cip_bland.specs.NoRepeat.{whole_answer}
use Rattle.cip_simplex.specs.LpAnswers.{IsAnswer}
use Rattle.cip_simplex.specs.LpShape.{IsSolvable}
use Rattle.cip_search.specs.LeafProgram.{program_of_leaf}
use Rattle.cip_leaf.proofs.Answered.{leaf_solvable}
use Rattle.cip_leaf.proofs.leaves.answer_by_moves.Goals as goal

pub new-lp-requires : goal.new-lp-requires
new-lp-requires c =
    rw (c.as_slice.ensures.value, c.as_slice-2.ensures.value) (subst IsSolvable (sym c.requires.parts) (leaf_solvable c.args.program.now c.args.wholes.now c.requires.formed))

pub shown_by_few-requires-clause-linear : goal.shown_by_few-requires-clause-linear
shown_by_few-requires-clause-linear c =
    let made = rw (c.as_slice.ensures.value, c.as_slice-2.ensures.value) at c.new-lp.ensures in
    made ∙ c.requires.parts

pub answer_at-requires-clause-end : goal.answer_at-requires-clause-end
answer_at-requires-clause-end c =
    let made = rw (c.as_slice.ensures.value, c.as_slice-2.ensures.value) at c.new-lp.ensures in
    let linear : c.new-lp.result ≡ program_of_leaf c.args.program.now c.args.wholes.now = made ∙ c.requires.parts in
    subst (λ (p : LinearProgram). IsAnswer (whole_answer p) c.in-Ok.end) linear c.in-Ok.ensures.answer

pub answer_at-requires-clause-formed : goal.answer_at-requires-clause-formed
answer_at-requires-clause-formed c = c.requires.formed

pub returns-in-Ok : goal.returns-in-Ok
returns-in-Ok c = grind (arith, common_steps)

pub returns-in-Some : goal.returns-in-Some
returns-in-Some c = grind (arith, common_steps)

pub shown_by_few-requires-clause-leaf : goal.shown_by_few-requires-clause-leaf
shown_by_few-requires-clause-leaf c = grind (arith, common_steps)

pub shown_by_few-requires-clause-formed : goal.shown_by_few-requires-clause-formed
shown_by_few-requires-clause-formed c = grind (arith, common_steps)

pub returns-in-Err : goal.returns-in-Err
returns-in-Err c = grind (arith, common_steps)

pub answer_at-requires-clause-leaf : goal.answer_at-requires-clause-leaf
answer_at-requires-clause-leaf c = c.requires.leaf

pub answer_at-requires-clause-parts : goal.answer_at-requires-clause-parts
answer_at-requires-clause-parts c = c.requires.parts
