use Rattle.std.proofs.Common.{◌≡◌, map, take}
use Rattle.cip_master.specs.BlockSums.{free_row}
use Rattle.cip_master.proofs.Numbers.{row_of}
use Rattle.cip_master.proofs.first.free_rows.Given as goal

abbrev pub invariant-loop-number : goal.invariant-loop-number
invariant-loop-number l =
    l.owns.items
    ≡ map (λ number. free_row l.blocks.column_owners.items l.blocks.places.items (row_of l.program.rows number))
    (take l.number-index l.blocks.blocks.master_rows)
