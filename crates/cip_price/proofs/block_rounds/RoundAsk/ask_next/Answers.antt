use Rattle.std.proofs.lemmas.Grind.{common_steps}
use Rattle.std.proofs.Common.{[], arith}
use Rattle.std.proofs.lemmas.Result.{MatchResult-from_err}
use Rattle.std.proofs.lemmas.List.{get_or_read}
use Rattle.cip_rational.specs.Rational.{zeroℚ}
use Rattle.cip_price.specs.PriceTasks.{task_at}
use Rattle.cip_price.proofs.Rounded.{block_put}
use Rattle.cip_price.proofs.block_rounds.RoundAsk.ask_next.Goals as goal

pub returns-in_err-found-clause-put : goal.returns-in_err-found-clause-put
returns-in_err-found-clause-put g c =
    MatchResult-from_err c.from_residual.result _ _ c.from_residual.ensures.0 (λ _. c.in_err-found.ensures.asked)

pub returns-clause-put : goal.returns-clause-put
returns-clause-put g c =
    let shown = c.args.self.now.shown.now in
    block_put (task_at c.args.self.now.task.now []) shown.rests.items shown.prices.items c.args.block c.index.result.now
    (g.A.AskPricer.told c.args.asker.now) (g.A.AskPricer.told c.block_answer.new.asker) c.args.pool.now
    c.block_answer.new.pool c.args.round.now c.put.new.self c.in_ok-found.found c.put.result
    (get_or_read shown.prices.items c.args.block c.index.result.now (omega arith) c.index.ensures zeroℚ)
    c.in_ok-found.ensures.asked c.put.ensures.growth c.put.ensures.gap c.put.ensures.none c.put.ensures.trees

pub index-requires : goal.index-requires
index-requires g c = grind (arith, common_steps)

pub returns-clause-room : goal.returns-clause-room
returns-clause-room g c = grind (arith, common_steps)

pub returns-clause-task : goal.returns-clause-task
returns-clause-task g c = grind (arith, common_steps)

pub returns-clause-grows : goal.returns-clause-grows
returns-clause-grows g c = grind (arith, common_steps)

pub block_answer-requires-clause-room : goal.block_answer-requires-clause-room
block_answer-requires-clause-room g c = grind (arith, common_steps)

pub returns-in_err-found-clause-task : goal.returns-in_err-found-clause-task
returns-in_err-found-clause-task g c = grind (arith, common_steps)

pub returns-in_err-found-clause-room : goal.returns-in_err-found-clause-room
returns-in_err-found-clause-room g c = grind (arith, common_steps)

pub block_answer-requires-clause-rests : goal.block_answer-requires-clause-rests
block_answer-requires-clause-rests g c = grind (arith, common_steps)

pub block_answer-requires-clause-block : goal.block_answer-requires-clause-block
block_answer-requires-clause-block g c = grind (arith, common_steps)

pub block_answer-requires-clause-task : goal.block_answer-requires-clause-task
block_answer-requires-clause-task g c = grind (arith, common_steps)
