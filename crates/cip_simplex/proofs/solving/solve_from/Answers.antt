use Rattle.std.proofs.lemmas.Grind.{common_steps}
use Rattle.std.proofs.Common.{sym, ap, ◌∙◌, subst, arith}
use Rattle.std.proofs.lemmas.Result.{IfOk-weaker}
use Rattle.cip_bland.specs.EndAnswers as def
use Rattle.cip_simplex.specs.LpAnswers.{IsAnswer}
use Rattle.cip_simplex.specs.Starts.{stands_of}
use Rattle.cip_simplex.specs.declared.answers.LpAnswer.TheVariants.{Wide}
use Rattle.cip_simplex.proofs.Solved.{from_in_range, from_out_of_range}
use Rattle.cip_simplex.proofs.StartLaws.{start_right}
use Rattle.cip_simplex.proofs.solving.solve_from.Goals as goal

pub returns-in-Ok-clause-answer : goal.returns-in-Ok-clause-answer
returns-in-Ok-clause-answer c =
    let same = from_in_range c.args.lp.now c.args.start.now c.args.limit c.in-Ok.ensures.0 in
    IfOk-weaker c.solve_in-solved.result _ _ (λ solved h. (
      subst (λ (a : def.Answer). IsAnswer a solved.0) (sym same.0) h.0,
      h.1 ∙ ap stands_of (sym same.1),
    )) c.solve_in-solved.ensures

pub returns-in_ok-slack-in-Err-OutOfRange-clause-answer : goal.returns-in_ok-slack-in-Err-OutOfRange-clause-answer
returns-in_ok-slack-in-Err-OutOfRange-clause-answer c =
    let at = rw c.in-Err-OutOfRange.field-0-is at c.in-Err-OutOfRange.ensures in
    let same = from_out_of_range c.args.lp.now c.args.start.now c.args.limit c.in-Err-OutOfRange.field-0-0 at in (
      subst (λ (a : def.Answer). IsAnswer a (Wide c.new-moves.result)) (sym same.0) c.new-moves.ensures.items,
      c.in_ok-slack-in-Err-OutOfRange.ensures.stands ∙ ap stands_of (sym same.1),
    )

pub returns-in-Ok-clause-right : goal.returns-in-Ok-clause-right
returns-in-Ok-clause-right c = start_right c.args.lp.now c.columns-columns.ensures.solvable.proper c.args.start.now c.args.limit

pub returns-in_ok-slack-in-Err-OutOfRange-clause-right : goal.returns-in_ok-slack-in-Err-OutOfRange-clause-right
returns-in_ok-slack-in-Err-OutOfRange-clause-right c = start_right c.args.lp.now c.columns-columns.ensures.solvable.proper c.args.start.now c.args.limit

pub returns-in-Err-NoMemory-clause-right : goal.returns-in-Err-NoMemory-clause-right
returns-in-Err-NoMemory-clause-right c = start_right c.args.lp.now c.columns-columns.ensures.solvable.proper c.args.start.now c.args.limit

pub returns-in_err-slack-in-Err-OutOfRange-clause-right : goal.returns-in_err-slack-in-Err-OutOfRange-clause-right
returns-in_err-slack-in-Err-OutOfRange-clause-right c = start_right c.args.lp.now c.columns-columns.ensures.solvable.proper c.args.start.now c.args.limit

pub solve_in-solved-requires-clause-first : goal.solve_in-solved-requires-clause-first
solve_in-solved-requires-clause-first c = grind (arith, common_steps)

pub returns-in-Err-NoMemory-clause-answer : goal.returns-in-Err-NoMemory-clause-answer
returns-in-Err-NoMemory-clause-answer c = grind (arith, common_steps)
