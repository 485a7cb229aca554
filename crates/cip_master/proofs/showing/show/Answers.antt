use Rattle.std.proofs.Common.{length, ap, ◌∙◌}
use Rattle.cip_master.specs.MasterTasks.{task_of}
use Rattle.cip_master.proofs.ShownLeast.{shows_after}
use Rattle.cip_master.proofs.showing.show.Goals as goal

pub returns-in-Ok-clause-shows : goal.returns-in-Ok-clause-shows
returns-in-Ok-clause-shows c =
    shows_after (task_of c.args.task.now) c.args.start c.in-Ok.total c.args.shown.now.rests.items
    c.reduce.new.shown.rests.items c.args.shown.now.multipliers.items c.reduce.new.shown.prices.items
    c.price.new.shown c.price.result c.columns-columns.ensures.formed c.requires.task c.requires.rests
    c.requires.multipliers (ap length c.in-Ok.ensures.prices ∙ c.requires.prices)
    (c.price.ensures.multipliers ∙ c.in-Ok.ensures.multipliers) c.in-Ok.ensures.steps c.price.ensures.steps
