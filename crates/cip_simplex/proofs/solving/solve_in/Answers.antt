use Rattle.std.proofs.lemmas.Result.{IfOk-from_err}
use Rattle.std.proofs.lemmas.Grind.{common_steps}
use Rattle.std.proofs.Common.{◌≡◌, refl, ap, ◌∙◌, arith}
use Rattle.cip_simplex.specs.LpAnswers.{IsAnswer}
use Rattle.cip_simplex.specs.Starts.{begun, stands_of, answer_on, last_on}
use Rattle.cip_simplex.proofs.solving.solve_in.Goals as goal
use Rattle.cip_simplex.proofs.solving.solve_in.Goals.{in-Some+in_ok-push-in-Some, in-None+in_ok-found-in-None}

pub returns : goal.returns
returns c =
    let both : IsAnswer (answer_on c.args.lp.now c.args.limit (begun c.args.lp.now c.args.start.now).wide (begun c.args.lp.now c.args.start.now)) c.match-branch-2.found × (c.match-branch-2.dict ≡ last_on c.args.limit (begun c.args.lp.now c.args.start.now).wide (begun c.args.lp.now c.args.start.now)) =
    elim c.match-branch-2.branch [
      | in-Some+in_ok-push-in-Some w ↦ rw (c.in_ok-wide.ensures.begun, w.in-Some.is, w.found-is, w.dict-is) (w.in_ok-push-in-Some.ensures.items, refl)
      | in-None+in_ok-found-in-None w ↦ rw (c.in_ok-wide.ensures.begun, w.in-None.is, w.found-is, w.dict-is) w.in_ok-found-in-None.ensures.answer
    ] in
    (both.0, c.in_ok-last.ensures ∙ ap stands_of both.1)

pub at-requires : goal.at-requires
at-requires c = grind (arith, common_steps)

pub solve_on-requires : goal.solve_on-requires
solve_on-requires c = grind (arith, common_steps)

pub begin_at-requires-clause-long : goal.begin_at-requires-clause-long
begin_at-requires-clause-long c = grind (arith, common_steps)

pub begin_at-requires-clause-first : goal.begin_at-requires-clause-first
begin_at-requires-clause-first c = grind (arith, common_steps)

pub begin_at-requires-clause-empty : goal.begin_at-requires-clause-empty
begin_at-requires-clause-empty c = grind (arith, common_steps)

pub returns-in_err-last : goal.returns-in_err-last
returns-in_err-last c = IfOk-from_err c.from_residual-in_err-last.result _ c.from_residual-in_err-last.ensures.0
