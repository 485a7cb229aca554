use Rattle.std.proofs.lemmas.Grind.{common_steps}
use Rattle.std.proofs.Common.{[], None, Some, ap, arith}
use Rattle.std.proofs.lemmas.Result.{MatchResult-from_err}
use Rattle.cip_problem.specs.Log.{Node}
use Rattle.cip_price.specs.PriceTasks.{task_at}
use Rattle.cip_price.specs.BlockAsks.{block_node, ask_at, told_of}
use Rattle.cip_price.proofs.Telling.{front_none}
use Rattle.cip_price.proofs.Answered.{tells_as, answered}
use Rattle.cip_price.proofs.asks.BlockAsk.ask.Goals as goal

pub returns-in_err-answer-clause-asked : goal.returns-in_err-answer-clause-asked
returns-in_err-answer-clause-asked g c =
    let task = task_at c.args.task.now [] in
    let ask = c.args.self.now in
    MatchResult-from_err c.from_residual.result _ _ c.from_residual.ensures.0
    (λ _. record {
      answer = None;
      tells =
          front_none (g.A.AskPricer.told c.args.asker.now) (g.A.AskPricer.told c.ask.new.self)
          (told_of task (ask_at task ask.costs.items ask.block None)) c.in_err-answer.ensures;
    })

pub returns-in-Some-clause-asked : goal.returns-in-Some-clause-asked
returns-in-Some-clause-asked g c =
    let task = task_at c.args.task.now [] in
    let ask = c.args.self.now in
    answered task ask.costs.items ask.block (g.A.AskPricer.told c.args.asker.now) (g.A.AskPricer.told c.ask.new.self)
    (g.A.AskPricer.told c.take_answer.new.asker) c.args.pool.now c.take_answer.new.pool c.in-Some.priced
    c.take_answer.result
    (tells_as (g.A.AskPricer.told c.args.asker.now) (g.A.AskPricer.told c.ask.new.self) ask.block
    c.as_slice.result.now ask.costs.items ask.region.bounds (block_node task ask.block).box c.in_ok-answer.answer
    (Some c.in-Some.priced) c.as_slice.ensures.value (ap (λ (d : Node). d.box) c.requires.ask.region) c.in-Some.is
    c.in_ok-answer.ensures)
    c.take_answer.ensures.tells c.take_answer.ensures.found

pub returns-in_err-answer-clause-grows : goal.returns-in_err-answer-clause-grows
returns-in_err-answer-clause-grows g c = grind (arith, common_steps)

pub take_answer-requires-clause-room : goal.take_answer-requires-clause-room
take_answer-requires-clause-room g c = grind (arith, common_steps)

pub returns-in-None-clause-asked : goal.returns-in-None-clause-asked
returns-in-None-clause-asked g c = grind (arith, common_steps)

pub returns-in-None-clause-grows : goal.returns-in-None-clause-grows
returns-in-None-clause-grows g c = grind (arith, common_steps)

pub returns-in-Some-clause-room : goal.returns-in-Some-clause-room
returns-in-Some-clause-room g c = grind (arith, common_steps)

pub returns-in-Some-clause-grows : goal.returns-in-Some-clause-grows
returns-in-Some-clause-grows g c = grind (arith, common_steps)

pub returns-in-Some-clause-task : goal.returns-in-Some-clause-task
returns-in-Some-clause-task g c = grind (arith, common_steps)

pub returns-in-None-clause-task : goal.returns-in-None-clause-task
returns-in-None-clause-task g c = grind (arith, common_steps)

pub returns-in-None-clause-room : goal.returns-in-None-clause-room
returns-in-None-clause-room g c = grind (arith, common_steps)

pub returns-in_err-answer-clause-task : goal.returns-in_err-answer-clause-task
returns-in_err-answer-clause-task g c = grind (arith, common_steps)

pub returns-in_err-answer-clause-room : goal.returns-in_err-answer-clause-room
returns-in_err-answer-clause-room g c = grind (arith, common_steps)
