use Rattle.std.proofs.lemmas.Grind.{common_steps}
use Rattle.std.proofs.Common.{[], refl, ◌∙◌, arith}
use Rattle.cip_price.specs.PriceTasks.{task_at}
use Rattle.cip_price.proofs.Standing.{none_held, open_going, round_trees, ready_grown, prices_stand}
use Rattle.cip_price.proofs.Led.{round_may}
use Rattle.cip_price.proofs.pricing.round_at_prices.Goals as goal

pub returns-in_default-sum_at_prices-clause-behind : goal.returns-in_default-sum_at_prices-clause-behind
returns-in_default-sum_at_prices-clause-behind g c =
    let shown = c.args.mixed.shown in
    round_may (task_at c.args.task.now []) shown.rests.items shown.prices.items
    (g.A.AskPricer.told c.args.asker.now) (g.A.AskPricer.told c.ask_blocks.new.asker) c.args.pool.now
    c.ask_blocks.new.pool c.in-Ok.round c.in-Ok.ensures.round

pub sum_at_prices-requires-clause-trees : goal.sum_at_prices-requires-clause-trees
sum_at_prices-requires-clause-trees g c = λ e.
    let task = task_at c.args.task.now [] in
    let round = c.in-Ok.round in
    let shown = c.args.mixed.shown in
    round_trees task c.columns-columns.ensures.formed (none_held task c.args.pool.now c.requires.task) shown
    (g.A.AskPricer.told c.args.asker.now) (g.A.AskPricer.told c.ask_blocks.new.asker) c.args.pool.now
    c.ask_blocks.new.pool round
    (c.requires.priced.shows.are_rests.long ∙ c.requires.task.made.decomposed.each_column) c.in-Ok.ensures.round
    (open_going round.growth round.is_empty round.gap e)

pub returns-clause-stands : goal.returns-clause-stands
returns-clause-stands g c =
    let task = task_at c.args.task.now [] in
    prices_stand task c.args.pool.now c.ask_blocks.new.pool c.columns-columns.ensures.formed c.requires.task
    c.args.mixed.shown c.ask_blocks.ensures.grows (g.A.AskPricer.told c.args.asker.now)
    (g.A.AskPricer.told c.ask_blocks.new.asker) c.in-Ok.round c.in-Ok.ensures.round c.args.work.now.best
    c.in-Ok-sum_at_prices.summed c.requires.best c.in-Ok-sum_at_prices.ensures.holds _
    (ready_grown task c.args.pool.now c.ask_blocks.new.pool c.args.work.now _ c.ask_blocks.ensures.grows c.requires.ready
    refl c.ask_blocks.ensures.room c.in-Ok-sum_at_prices.ensures.fits)
    c.raised-work.ensures c.decided-answer.result c.args.mixed.weights c.args.mixed.cost c.requires.priced
    c.decided-answer.ensures

pub sum_at_prices-requires-clause-task : goal.sum_at_prices-requires-clause-task
sum_at_prices-requires-clause-task g c = grind (arith, common_steps)

pub returns-clause-behind : goal.returns-clause-behind
returns-clause-behind g c = grind (arith, common_steps)

pub sum_at_prices-requires-clause-multipliers : goal.sum_at_prices-requires-clause-multipliers
sum_at_prices-requires-clause-multipliers g c = grind (arith, common_steps)

pub returns-in_default-clause-behind : goal.returns-in_default-clause-behind
returns-in_default-clause-behind g c = grind (arith, common_steps)

pub returns-in_default-sum_at_prices-clause-task : goal.returns-in_default-sum_at_prices-clause-task
returns-in_default-sum_at_prices-clause-task g c = grind (arith, common_steps)

pub returns-in_default-sum_at_prices-clause-grows : goal.returns-in_default-sum_at_prices-clause-grows
returns-in_default-sum_at_prices-clause-grows g c = grind (arith, common_steps)

pub ask_blocks-requires-clause-room : goal.ask_blocks-requires-clause-room
ask_blocks-requires-clause-room g c = grind (arith, common_steps)

pub ask_blocks-requires-clause-rests : goal.ask_blocks-requires-clause-rests
ask_blocks-requires-clause-rests g c = grind (arith, common_steps)

pub ask_blocks-requires-clause-prices : goal.ask_blocks-requires-clause-prices
ask_blocks-requires-clause-prices g c = grind (arith, common_steps)

pub returns-in_default-clause-task : goal.returns-in_default-clause-task
returns-in_default-clause-task g c = grind (arith, common_steps)

pub returns-in_default-clause-grows : goal.returns-in_default-clause-grows
returns-in_default-clause-grows g c = grind (arith, common_steps)

pub ask_blocks-requires-clause-task : goal.ask_blocks-requires-clause-task
ask_blocks-requires-clause-task g c = grind (arith, common_steps)

pub returns-in_default-sum_at_prices-clause-stands : goal.returns-in_default-sum_at_prices-clause-stands
returns-in_default-sum_at_prices-clause-stands g c = grind (arith, common_steps)

pub returns-in_default-clause-stands : goal.returns-in_default-clause-stands
returns-in_default-clause-stands g c = grind (arith, common_steps)
