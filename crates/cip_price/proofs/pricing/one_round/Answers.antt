use Rattle.std.proofs.lemmas.Grind.{common_steps}
use Rattle.std.proofs.Common.{[], Option, Some, refl, ap, ◌∙◌, subst, arith}
use Rattle.std.proofs.lemmas.Result.{MatchResult-weaker}
use Rattle.cip_rational.specs.Rational.{ℚ}
use Rattle.cip_master.specs.MasterAnswers.{IsMasterAnswer}
use Rattle.cip_master.specs.declared.answers.MasterAnswer.TheVariants.{Prices, Farkas}
use Rattle.cip_price.specs.PriceTasks.{task_at}
use Rattle.cip_price.specs.PricedRounds.{with_cause}
use Rattle.cip_price.specs.Worked.{IsStep, At_cause, At_round}
use Rattle.cip_price.specs.declared.answers.PriceCause.TheVariants.{Master}
use Rattle.cip_price.proofs.pricing.one_round.Goals as goal

pub returns-in-Prices-clause-step : goal.returns-in-Prices-clause-step
returns-in-Prices-clause-step g c =
    let task = task_at c.args.task.now [] in
    let m = subst (IsMasterAnswer c.args.moves (task_at c.args.task.now c.args.pool.now)) c.in-Prices.is
    c.in_ok-answer.ensures.answer in
    MatchResult-weaker c.round_at_prices.result c.round_at_prices.ensures.behind
    (λ found b.
    subst (λ (best : Option ℚ). IsStep c.args.moves task (g.A.AskPricer.told c.args.asker.now)
    (g.A.AskPricer.told c.round_at_prices.new.asker) c.args.pool.now c.round_at_prices.new.pool best
    c.round_at_prices.new.work.best found) c.ask_master.ensures.best
    (At_round (Prices c.in-Prices.shown c.in-Prices.weights c.in-Prices.cost) c.in-Prices.shown m refl b))
    (λ _ may. may)

pub returns-in-Farkas-clause-step : goal.returns-in-Farkas-clause-step
returns-in-Farkas-clause-step g c =
    let task = task_at c.args.task.now [] in
    let m = subst (IsMasterAnswer c.args.moves (task_at c.args.task.now c.args.pool.now)) c.in-Farkas.is
    c.in_ok-answer.ensures.answer in
    MatchResult-weaker c.round_at_farkas-answer.result c.round_at_farkas-answer.ensures.behind
    (λ found b.
    subst (λ (best : Option ℚ). IsStep c.args.moves task (g.A.AskPricer.told c.args.asker.now)
    (g.A.AskPricer.told c.round_at_farkas-answer.new.asker) c.args.pool.now c.round_at_farkas-answer.new.pool best
    c.round_at_farkas-answer.new.work.best found) c.ask_master.ensures.best
    (At_round (Farkas c.in-Farkas.shown) c.in-Farkas.shown m refl b))
    (λ _ may. may)

pub returns-in-Unsolved-clause-step : goal.returns-in-Unsolved-clause-step
returns-in-Unsolved-clause-step g c =
    let m = subst (IsMasterAnswer c.args.moves (task_at c.args.task.now c.args.pool.now)) c.in-Unsolved.is
    c.in_ok-answer.ensures.answer in
    At_cause c.in-Unsolved.cause m refl refl c.ask_master.ensures.best
    (ap Some (c.with_cause.ensures
    ∙ ap (λ (best : Option ℚ). with_cause best (Master c.in-Unsolved.cause)) c.ask_master.ensures.best))

pub round_at_prices-requires-clause-ready : goal.round_at_prices-requires-clause-ready
round_at_prices-requires-clause-ready g c = grind (arith, common_steps)

pub round_at_farkas-answer-requires-clause-ready : goal.round_at_farkas-answer-requires-clause-ready
round_at_farkas-answer-requires-clause-ready g c = grind (arith, common_steps)

pub round_at_prices-requires-clause-priced : goal.round_at_prices-requires-clause-priced
round_at_prices-requires-clause-priced g c = grind (arith, common_steps)

pub returns-in_err-answer-clause-step : goal.returns-in_err-answer-clause-step
returns-in_err-answer-clause-step g c = grind (arith, common_steps)

pub returns-in_err-answer-clause-grows : goal.returns-in_err-answer-clause-grows
returns-in_err-answer-clause-grows g c = grind (arith, common_steps)

pub round_at_prices-requires-clause-best : goal.round_at_prices-requires-clause-best
round_at_prices-requires-clause-best g c = grind (arith, common_steps)

pub returns-in-Unsolved-clause-grows : goal.returns-in-Unsolved-clause-grows
returns-in-Unsolved-clause-grows g c = grind (arith, common_steps)

pub round_at_farkas-answer-requires-clause-best : goal.round_at_farkas-answer-requires-clause-best
round_at_farkas-answer-requires-clause-best g c = grind (arith, common_steps)

pub round_at_farkas-answer-requires-clause-farkas : goal.round_at_farkas-answer-requires-clause-farkas
round_at_farkas-answer-requires-clause-farkas g c = grind (arith, common_steps)

pub returns-in-Farkas-clause-stands : goal.returns-in-Farkas-clause-stands
returns-in-Farkas-clause-stands g c = grind (arith, common_steps)

pub returns-in-Prices-clause-stands : goal.returns-in-Prices-clause-stands
returns-in-Prices-clause-stands g c = grind (arith, common_steps)

pub returns-in-Prices-clause-grows : goal.returns-in-Prices-clause-grows
returns-in-Prices-clause-grows g c = grind (arith, common_steps)

pub returns-in-Farkas-clause-task : goal.returns-in-Farkas-clause-task
returns-in-Farkas-clause-task g c = grind (arith, common_steps)

pub returns-in-Farkas-clause-grows : goal.returns-in-Farkas-clause-grows
returns-in-Farkas-clause-grows g c = grind (arith, common_steps)

pub returns-in-Prices-clause-task : goal.returns-in-Prices-clause-task
returns-in-Prices-clause-task g c = grind (arith, common_steps)

pub round_at_farkas-answer-requires-clause-task : goal.round_at_farkas-answer-requires-clause-task
round_at_farkas-answer-requires-clause-task g c = grind (arith, common_steps)

pub returns-in_err-answer-clause-task : goal.returns-in_err-answer-clause-task
returns-in_err-answer-clause-task g c = grind (arith, common_steps)

pub ask_master-requires-clause-kept : goal.ask_master-requires-clause-kept
ask_master-requires-clause-kept g c = grind (arith, common_steps)

pub ask_master-requires-clause-task : goal.ask_master-requires-clause-task
ask_master-requires-clause-task g c = grind (arith, common_steps)
