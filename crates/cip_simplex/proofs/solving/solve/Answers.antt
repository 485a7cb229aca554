use Rattle.std.proofs.lemmas.Grind.{common_steps}
use Rattle.std.proofs.Common.{ap, sym, ◌∙◌, subst, arith}
use Rattle.cip_bland.specs.Dictionary.{size}
use Rattle.cip_bland.specs.EndAnswers as def
use Rattle.cip_bland.proofs.RunFacts.{answers_are_right}
use Rattle.cip_simplex.specs.LpAnswers.{IsAnswer}
use Rattle.cip_simplex.specs.declared.answers.LpAnswer.TheVariants.{Wide}
use Rattle.cip_simplex.proofs.Solved.{first_size, answer_out_of_range, answered}
use Rattle.cip_simplex.proofs.solving.solve.Goals as goal

pub solve_on-found-requires : goal.solve_on-found-requires
solve_on-found-requires c = ap size c.in-Ok.ensures.1 ∙ first_size c.args.lp.now

pub returns-in-Ok-clause-answer : goal.returns-in-Ok-clause-answer
returns-in-Ok-clause-answer c = answered c.args.lp.now c.args.limit c.new.result.items c.in-Ok.dict c.solve_on-found.new.dict c.solve_on-found.result c.in-Ok.ensures.0 c.in-Ok.ensures.1 c.new.ensures.items c.solve_on-found.ensures.answer

pub returns-in-Ok-clause-right : goal.returns-in-Ok-clause-right
returns-in-Ok-clause-right c = answers_are_right c.args.lp.now c.args.limit c.columns-columns.ensures.solvable.proper

pub returns-in-Err-OutOfRange-clause-answer : goal.returns-in-Err-OutOfRange-clause-answer
returns-in-Err-OutOfRange-clause-answer c =
    let at = rw c.in-Err-OutOfRange.field-0-is at c.in-Err-OutOfRange.ensures in
    subst (λ (a : def.Answer). IsAnswer a (Wide c.new-in-Err-OutOfRange.result)) (sym (answer_out_of_range c.args.lp.now c.args.limit c.in-Err-OutOfRange.field-0-0 at)) c.new-in-Err-OutOfRange.ensures.items

pub returns-in-Err-OutOfRange-clause-right : goal.returns-in-Err-OutOfRange-clause-right
returns-in-Err-OutOfRange-clause-right c = answers_are_right c.args.lp.now c.args.limit c.columns-columns.ensures.solvable.proper

pub returns-in-Err-NoMemory-clause-right : goal.returns-in-Err-NoMemory-clause-right
returns-in-Err-NoMemory-clause-right c = answers_are_right c.args.lp.now c.args.limit c.columns-columns.ensures.solvable.proper

pub returns-in-Err-NoMemory-clause-answer : goal.returns-in-Err-NoMemory-clause-answer
returns-in-Err-NoMemory-clause-answer c = grind (arith, common_steps)
