use Rattle.std.proofs.lemmas.Grind.{common_steps}
use Rattle.std.proofs.Common.{ap, sym, ◌∙◌, subst, arith}
use Rattle.cip_bland.specs.Dictionary.{size}
use Rattle.cip_bland.specs.EndAnswers as def
use Rattle.cip_bland.specs.Statements.{IsStateOf}
use Rattle.cip_bland.proofs.ListEnds.{answers_end}
use Rattle.cip_bland.proofs.StepCases.{first_is_state}
use Rattle.cip_simplex.specs.LpAnswers.{IsAnswer}
use Rattle.cip_simplex.specs.declared.answers.LpAnswer.TheVariants.{Wide}
use Rattle.cip_simplex.proofs.Solved.{first_size, whole_out_of_range, wholly_answered}
use Rattle.cip_simplex.proofs.solving.solve_fully.Goals as goal

pub solve_all-found-requires-clause-state : goal.solve_all-found-requires-clause-state
solve_all-found-requires-clause-state c = subst (IsStateOf c.args.lp.now) (sym c.in-Ok.ensures.1) (first_is_state c.args.lp.now)

pub solve_all-found-requires-clause-variables : goal.solve_all-found-requires-clause-variables
solve_all-found-requires-clause-variables c = ap size c.in-Ok.ensures.1 ∙ first_size c.args.lp.now

pub returns-in-Ok-clause-answer : goal.returns-in-Ok-clause-answer
returns-in-Ok-clause-answer c = wholly_answered c.args.lp.now c.in-Ok.dict c.solve_all-found.result c.in-Ok.ensures.0 c.in-Ok.ensures.1 c.solve_all-found.ensures

pub returns-in-Err-OutOfRange-clause-answer : goal.returns-in-Err-OutOfRange-clause-answer
returns-in-Err-OutOfRange-clause-answer c =
    let at = rw c.in-Err-OutOfRange.field-0-is at c.in-Err-OutOfRange.ensures in
    subst (λ (a : def.Answer). IsAnswer a (Wide c.new.result)) (sym (whole_out_of_range c.args.lp.now c.in-Err-OutOfRange.field-0-0 at)) c.new.ensures.items

pub returns-in-Ok-clause-whole : goal.returns-in-Ok-clause-whole
returns-in-Ok-clause-whole c = answers_end c.args.lp.now c.columns-columns.ensures.solvable.proper

pub returns-in-Err-OutOfRange-clause-whole : goal.returns-in-Err-OutOfRange-clause-whole
returns-in-Err-OutOfRange-clause-whole c = answers_end c.args.lp.now c.columns-columns.ensures.solvable.proper

pub returns-in-Err-NoMemory-clause-whole : goal.returns-in-Err-NoMemory-clause-whole
returns-in-Err-NoMemory-clause-whole c = answers_end c.args.lp.now c.columns-columns.ensures.solvable.proper

pub returns-in-Err-NoMemory-clause-answer : goal.returns-in-Err-NoMemory-clause-answer
returns-in-Err-NoMemory-clause-answer c = grind (arith, common_steps)
