use Rattle.std.proofs.lemmas.Grind.{common_steps}
use Rattle.std.proofs.Common.{List, [], ap, ◌∙◌, arith}
use Rattle.std.proofs.lemmas.Result.{MatchResult-from_err, MatchResult-weaker}
use Rattle.cip_rational.specs.Rational.{ℚ}
use Rattle.cip_price.specs.PriceTasks.{task_at}
use Rattle.cip_price.specs.BlockAsks.{costs_in}
use Rattle.cip_price.proofs.Rounded.{answers_at, may_at, may_nothing}
use Rattle.cip_price.proofs.block_rounds.RoundAsk.block_answer.Goals as goal

pub returns-in_err-ask-clause-asked : goal.returns-in_err-ask-clause-asked
returns-in_err-ask-clause-asked g c =
    let task = task_at c.args.self.now.task.now [] in
    MatchResult-from_err c.from_residual.result _ _ c.from_residual.ensures.0
    (λ _. may_nothing task (costs_in task c.args.self.now.shown.now.rests.items c.args.block) c.args.block
    (g.A.AskPricer.told c.args.asker.now))

pub returns-clause-asked : goal.returns-clause-asked
returns-clause-asked g c =
    let task = task_at c.args.self.now.task.now [] in
    let rests = c.args.self.now.shown.now.rests.items in
    let ask = c.in_ok-ask.ask in
    let costs = c.in_ok-ask.ensures.costs ∙ ap (λ (rs : List ℚ). costs_in task rs c.args.block) c.as_slice.ensures.value in
    MatchResult-weaker c.ask-answer.result c.ask-answer.ensures.asked
    (λ found a. answers_at task rests ask.costs.items ask.block c.args.block (g.A.AskPricer.told c.args.asker.now)
    (g.A.AskPricer.told c.ask-answer.new.asker) c.args.pool.now c.ask-answer.new.pool found costs
    c.in_ok-ask.ensures.block a)
    (λ _ m. may_at task rests ask.costs.items ask.block c.args.block (g.A.AskPricer.told c.args.asker.now)
    (g.A.AskPricer.told c.ask-answer.new.asker) costs c.in_ok-ask.ensures.block m)

pub new-requires-clause-task : goal.new-requires-clause-task
new-requires-clause-task g c = grind (arith, common_steps)

pub returns-in_err-ask-clause-grows : goal.returns-in_err-ask-clause-grows
returns-in_err-ask-clause-grows g c = grind (arith, common_steps)

pub ask-answer-requires-clause-room : goal.ask-answer-requires-clause-room
ask-answer-requires-clause-room g c = grind (arith, common_steps)

pub returns-clause-room : goal.returns-clause-room
returns-clause-room g c = grind (arith, common_steps)

pub returns-clause-task : goal.returns-clause-task
returns-clause-task g c = grind (arith, common_steps)

pub returns-clause-grows : goal.returns-clause-grows
returns-clause-grows g c = grind (arith, common_steps)

pub ask-answer-requires-clause-task : goal.ask-answer-requires-clause-task
ask-answer-requires-clause-task g c = grind (arith, common_steps)

pub returns-in_err-ask-clause-task : goal.returns-in_err-ask-clause-task
returns-in_err-ask-clause-task g c = grind (arith, common_steps)

pub new-requires-clause-block : goal.new-requires-clause-block
new-requires-clause-block g c = grind (arith, common_steps)

pub new-requires-clause-rests : goal.new-requires-clause-rests
new-requires-clause-rests g c = grind (arith, common_steps)

pub returns-in_err-ask-clause-room : goal.returns-in_err-ask-clause-room
returns-in_err-ask-clause-room g c = grind (arith, common_steps)
