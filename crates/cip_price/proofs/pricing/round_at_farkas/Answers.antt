use Rattle.std.proofs.lemmas.Grind.{common_steps}
use Rattle.std.proofs.Common.{[], refl, arith}
use Rattle.cip_price.specs.PriceTasks.{task_at}
use Rattle.cip_price.specs.declared.bounding.Summed.TheVariants.{Nothing}
use Rattle.cip_price.proofs.Standing.{ready_grown, farkas_stands}
use Rattle.cip_price.proofs.pricing.round_at_farkas.Goals as goal

pub returns-clause-stands : goal.returns-clause-stands
returns-clause-stands g c =
    let task = task_at c.args.task.now [] in
    farkas_stands task c.args.pool.now c.ask_blocks.new.pool c.columns-columns.ensures.formed c.requires.task
    c.args.shown.now c.ask_blocks.ensures.grows (g.A.AskPricer.told c.args.asker.now)
    (g.A.AskPricer.told c.ask_blocks.new.asker) c.in_ok-round.round c.in_ok-round.ensures.round c.args.work.now.best
    Nothing c.requires.best tt _
    (ready_grown task c.args.pool.now c.ask_blocks.new.pool c.args.work.now _ c.ask_blocks.ensures.grows c.requires.ready
    refl c.ask_blocks.ensures.room c.requires.ready.fits)
    refl c.decided-answer.result c.requires.farkas c.decided-answer.ensures

pub returns-clause-behind : goal.returns-clause-behind
returns-clause-behind g c = grind (arith, common_steps)

pub returns-in_err-round-clause-behind : goal.returns-in_err-round-clause-behind
returns-in_err-round-clause-behind g c = grind (arith, common_steps)

pub returns-clause-task : goal.returns-clause-task
returns-clause-task g c = grind (arith, common_steps)

pub returns-clause-grows : goal.returns-clause-grows
returns-clause-grows g c = grind (arith, common_steps)

pub ask_blocks-requires-clause-rests : goal.ask_blocks-requires-clause-rests
ask_blocks-requires-clause-rests g c = grind (arith, common_steps)

pub returns-in_err-round-clause-task : goal.returns-in_err-round-clause-task
returns-in_err-round-clause-task g c = grind (arith, common_steps)

pub ask_blocks-requires-clause-room : goal.ask_blocks-requires-clause-room
ask_blocks-requires-clause-room g c = grind (arith, common_steps)

pub returns-in_err-round-clause-grows : goal.returns-in_err-round-clause-grows
returns-in_err-round-clause-grows g c = grind (arith, common_steps)

pub ask_blocks-requires-clause-prices : goal.ask_blocks-requires-clause-prices
ask_blocks-requires-clause-prices g c = grind (arith, common_steps)

pub ask_blocks-requires-clause-task : goal.ask_blocks-requires-clause-task
ask_blocks-requires-clause-task g c = grind (arith, common_steps)
