use Rattle.std.proofs.Common.{◌≡◌, drop}
use Rattle.cip_master.specs.BlockSums.{coefficient_in}
use Rattle.cip_master.specs.WeightTerms.{weighted}
use Rattle.cip_master.proofs.point_weights.put_weights.Given as goal

abbrev pub invariant-loop-at : goal.invariant-loop-at
invariant-loop-at l =
    weighted (coefficient_in l.blocks l.held) l.column l.program.rows l.at (drop l.at l.blocks.blocks.master_rows)
    l.masters
    ≡ weighted (coefficient_in l.blocks l.held) l.column l.program.rows 0 l.blocks.blocks.master_rows l.fn.masters
