use Rattle.cip_master.proofs.Numbers.{rows_inside}
use Rattle.cip_master.proofs.showing.reduce.Goals as goal

pub use_multipliers-requires-clause-numbers : goal.use_multipliers-requires-clause-numbers
use_multipliers-requires-clause-numbers c =
    rows_inside c.args.task.now.program.now c.args.task.now.blocks.now c.requires.task.made
    c.master_rows-numbers.result.now c.rows.result.now c.master_rows-numbers.ensures c.rows.ensures.rows
