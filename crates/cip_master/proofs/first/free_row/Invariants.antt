use Rattle.std.proofs.Common.{◌≡◌, take}
use Rattle.cip_master.specs.BlockSums.{free_row}
use Rattle.cip_master.proofs.first.free_row.Given as goal

abbrev pub invariant-loop-term : goal.invariant-loop-term
invariant-loop-term l =
    l.own
    ≡ free_row l.owners l.places (record {
      terms = take l.term-index l.row.terms;
      low = l.row.low;
      high = l.row.high;
    })
