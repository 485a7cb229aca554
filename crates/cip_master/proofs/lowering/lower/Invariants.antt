use Rattle.std.proofs.Common.{◌≡◌, drop}
use Rattle.cip_master.specs.ShownSums.{lowered}
use Rattle.cip_master.proofs.lowering.lower.Given as goal

abbrev pub invariant-loop-at : goal.invariant-loop-at
invariant-loop-at l =
    lowered l.task.blocks.now l.task.bounds.now l.rests (drop l.at l.task.pool.now) l.prices
    ≡ lowered l.task.blocks.now l.task.bounds.now l.rests l.task.pool.now l.fn.prices
