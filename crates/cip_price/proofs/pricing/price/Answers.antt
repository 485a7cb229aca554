use Rattle.std.proofs.lemmas.Grind.{common_steps}
use Rattle.std.proofs.Common.{Bool, [], refl, sym, subst, arith}
use Rattle.std.specs.Prelude.{MatchResult}
use Rattle.std.proofs.lemmas.Result.{MatchResult-from_err}
use Rattle.cip_price.specs.PriceTasks.{task_at}
use Rattle.cip_price.proofs.Telling.{tells_none}
use Rattle.cip_price.specs.PricedRounds.{IsPricedUnless, IsCutShort}
use Rattle.cip_price.specs.declared.answers.PriceAnswer.TheVariants.{NoPoint}
use Rattle.cip_price.proofs.Crossed.{crossed_empties}
use Rattle.cip_price.proofs.Standing.{none_held}
use Rattle.cip_price.proofs.Led.{cut_none}
use Rattle.cip_price.proofs.pricing.price.Goals as goal

pub returns-then-has_crossed-clause-by : goal.returns-then-has_crossed-clause-by
returns-then-has_crossed-clause-by g c =
    subst (λ (t : Bool). IsPricedUnless t c.args.limits.moves c.args.limits.rounds (task_at c.args.task.now [])
    (g.A.AskPricer.told c.args.asker.now) (g.A.AskPricer.told c.args.asker.now) c.args.pool.now c.args.pool.now NoPoint)
    c.if-has_crossed.ensures (tells_none (g.A.AskPricer.told c.args.asker.now), refl, refl)

pub returns-then-has_crossed-clause-holds : goal.returns-then-has_crossed-clause-holds
returns-then-has_crossed-clause-holds g c =
    crossed_empties (task_at c.args.task.now []) (none_held (task_at c.args.task.now []) c.args.pool.now c.requires)
    (sym c.if-has_crossed.ensures)

pub returns-in_err-work-clause-by : goal.returns-in_err-work-clause-by
returns-in_err-work-clause-by g c =
    MatchResult-from_err c.from_residual.result _ _ c.from_residual.ensures.0
    (λ _. cut_none c.args.limits.moves (task_at c.args.task.now []) (g.A.AskPricer.told c.args.asker.now)
    c.args.pool.now)

pub returns-clause-by : goal.returns-clause-by
returns-clause-by g c =
    subst (λ (t : Bool). MatchResult c.price_in_rounds-answer.result
    (IsPricedUnless t c.args.limits.moves c.args.limits.rounds (task_at c.args.task.now [])
    (g.A.AskPricer.told c.args.asker.now) (g.A.AskPricer.told c.price_in_rounds-answer.new.asker) c.args.pool.now
    c.price_in_rounds-answer.new.pool)
    (λ _. IsCutShort c.args.limits.moves (task_at c.args.task.now []) (g.A.AskPricer.told c.args.asker.now)
    (g.A.AskPricer.told c.price_in_rounds-answer.new.asker) c.args.pool.now))
    c.if-has_crossed.ensures c.price_in_rounds-answer.ensures.by

pub returns-in_err-work-clause-grows : goal.returns-in_err-work-clause-grows
returns-in_err-work-clause-grows g c = grind (arith, common_steps)

pub has_crossed-requires : goal.has_crossed-requires
has_crossed-requires g c = grind (arith, common_steps)

pub returns-then-has_crossed-clause-grows : goal.returns-then-has_crossed-clause-grows
returns-then-has_crossed-clause-grows g c = grind (arith, common_steps)

pub returns-clause-holds : goal.returns-clause-holds
returns-clause-holds g c = grind (arith, common_steps)

pub returns-clause-task : goal.returns-clause-task
returns-clause-task g c = grind (arith, common_steps)

pub returns-clause-grows : goal.returns-clause-grows
returns-clause-grows g c = grind (arith, common_steps)

pub price_in_rounds-answer-requires-clause-ready : goal.price_in_rounds-answer-requires-clause-ready
price_in_rounds-answer-requires-clause-ready g c = grind (arith, common_steps)

pub price_in_rounds-answer-requires-clause-task : goal.price_in_rounds-answer-requires-clause-task
price_in_rounds-answer-requires-clause-task g c = grind (arith, common_steps)

pub returns-in_err-work-clause-task : goal.returns-in_err-work-clause-task
returns-in_err-work-clause-task g c = grind (arith, common_steps)

pub price_in_rounds-answer-requires-clause-best : goal.price_in_rounds-answer-requires-clause-best
price_in_rounds-answer-requires-clause-best g c = grind (arith, common_steps)

pub returns-then-has_crossed-clause-task : goal.returns-then-has_crossed-clause-task
returns-then-has_crossed-clause-task g c = grind (arith, common_steps)

pub new-requires : goal.new-requires
new-requires g c = grind (arith, common_steps)
