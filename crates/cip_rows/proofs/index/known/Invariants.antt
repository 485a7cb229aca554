use Rattle.std.specs.List.{AllWithin}
use Rattle.cip_rows.proofs.IndexedRows.{IsPassed}
use Rattle.cip_rows.proofs.index.known.Given as goal

abbrev pub invariant-loop-at : goal.invariant-loop-at
invariant-loop-at l = AllWithin (IsPassed l.rows l.row l.scope) l.entries 0 l.at
