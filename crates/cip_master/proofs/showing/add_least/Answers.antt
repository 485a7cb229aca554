use Rattle.std.proofs.Common.{◌<◌, length, sym, subst}
use Rattle.std.specs.Prelude.{All}
use Rattle.cip_master.proofs.Numbers.{free_inside}
use Rattle.cip_master.proofs.showing.add_least.Goals as goal

pub add_free-requires-clause-numbers : goal.add_free-requires-clause-numbers
add_free-requires-clause-numbers c =
    subst (All (λ number. number < length c.args.rests.now)) (sym c.free_columns-numbers.ensures)
    (free_inside c.args.task.now.program.now c.args.task.now.blocks.now c.requires.task.made (length c.args.rests.now)
    c.requires.rests)
