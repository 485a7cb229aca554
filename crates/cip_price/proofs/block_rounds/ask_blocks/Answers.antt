use Rattle.std.proofs.lemmas.Grind.{common_steps}
use Rattle.std.proofs.Common.{◌+◌, [], refl, ◌∙◌, arith}
use Rattle.cip_price.specs.PriceTasks.{task_at}
use Rattle.cip_price.proofs.Offered.{grows_by}
use Rattle.cip_price.proofs.Rounded.{round_more, round_full, round_cut}
use Rattle.cip_price.proofs.block_rounds.ask_blocks.Goals as goal

pub returns-in-Err-clause-round : goal.returns-in-Err-clause-round
returns-in-Err-clause-round g c =
    round_cut (task_at c.args.task.now []) c.args.shown.now.rests.items c.args.shown.now.prices.items
    (g.A.AskPricer.told c.args.asker.now) (g.A.AskPricer.told c.loop-at.asker) (g.A.AskPricer.told c.ask_next.new.asker)
    c.args.pool.now c.loop-at.pool c.loop-at.round c.loop-at.at (omega arith) c.loop-at.invariant.round
    c.in-Err.ensures.put

pub returns-in-Err-clause-grows : goal.returns-in-Err-clause-grows
returns-in-Err-clause-grows g c =
    grows_by c.args.pool.now c.loop-at.pool c.ask_next.new.pool c.loop-at.invariant.grows c.ask_next.ensures.grows

pub returns-then-is_full-clause-grows : goal.returns-then-is_full-clause-grows
returns-then-is_full-clause-grows g c =
    grows_by c.args.pool.now c.loop-at.pool c.ask_next.new.pool c.loop-at.invariant.grows c.ask_next.ensures.grows

pub returns-then-is_full-clause-round : goal.returns-then-is_full-clause-round
returns-then-is_full-clause-round g c =
    let task = task_at c.args.task.now [] in
    let rests = c.args.shown.now.rests.items in
    let prices = c.args.shown.now.prices.items in
    round_full task rests prices (g.A.AskPricer.told c.args.asker.now) (g.A.AskPricer.told c.ask_next.new.asker)
    c.args.pool.now c.ask_next.new.pool c.ask_next.new.round (c.loop-at.at + 1) (omega arith)
    (c.if-is_full.ensures.full refl)
    (round_more task rests prices (g.A.AskPricer.told c.args.asker.now) (g.A.AskPricer.told c.loop-at.asker)
    (g.A.AskPricer.told c.ask_next.new.asker) c.args.pool.now c.loop-at.pool c.ask_next.new.pool c.loop-at.round
    c.ask_next.new.round c.loop-at.at c.loop-at.invariant.going c.loop-at.invariant.round c.in-Ok.ensures.put)

pub loop-at-preserved : goal.loop-at-preserved
loop-at-preserved g c = record {
  round =
      round_more (task_at c.args.task.now []) c.args.shown.now.rests.items c.args.shown.now.prices.items
      (g.A.AskPricer.told c.args.asker.now) (g.A.AskPricer.told c.loop-at.asker)
      (g.A.AskPricer.told c.ask_next.new.asker) c.args.pool.now c.loop-at.pool c.ask_next.new.pool c.loop-at.round
      c.ask_next.new.round c.loop-at.at c.loop-at.invariant.going c.loop-at.invariant.round c.in-Ok.ensures.put;
  going = c.if-is_full.ensures.going refl;
  grows = grows_by c.args.pool.now c.loop-at.pool c.ask_next.new.pool c.loop-at.invariant.grows c.ask_next.ensures.grows;
  task = c.ask_next.ensures.task;
  room = c.ask_next.ensures.room ∙ c.loop-at.invariant.room;
}

pub loop-at-init : goal.loop-at-init
loop-at-init g c = grind (arith, common_steps)

pub returns-clause-round : goal.returns-clause-round
returns-clause-round g c = grind (arith, common_steps)

pub ask_next-requires-clause-block : goal.ask_next-requires-clause-block
ask_next-requires-clause-block g c = grind (arith, common_steps)

pub returns-then-is_full-clause-room : goal.returns-then-is_full-clause-room
returns-then-is_full-clause-room g c = grind (arith, common_steps)

pub returns-in-Err-clause-room : goal.returns-in-Err-clause-room
returns-in-Err-clause-room g c = grind (arith, common_steps)

pub overflow_cast-at : goal.overflow_cast-at
overflow_cast-at g c = grind (arith, common_steps)

pub ask_next-requires-clause-rests : goal.ask_next-requires-clause-rests
ask_next-requires-clause-rests g c = grind (arith, common_steps)

pub returns-in-Err-clause-task : goal.returns-in-Err-clause-task
returns-in-Err-clause-task g c = grind (arith, common_steps)

pub ask_next-requires-clause-room : goal.ask_next-requires-clause-room
ask_next-requires-clause-room g c = grind (arith, common_steps)

pub ask_next-requires-clause-prices : goal.ask_next-requires-clause-prices
ask_next-requires-clause-prices g c = grind (arith, common_steps)

pub returns-then-is_full-clause-task : goal.returns-then-is_full-clause-task
returns-then-is_full-clause-task g c = grind (arith, common_steps)

pub ask_next-requires-clause-task : goal.ask_next-requires-clause-task
ask_next-requires-clause-task g c = grind (arith, common_steps)

pub returns-clause-room : goal.returns-clause-room
returns-clause-room g c = grind (arith, common_steps)

pub returns-clause-task : goal.returns-clause-task
returns-clause-task g c = grind (arith, common_steps)

pub returns-clause-grows : goal.returns-clause-grows
returns-clause-grows g c = grind (arith, common_steps)
