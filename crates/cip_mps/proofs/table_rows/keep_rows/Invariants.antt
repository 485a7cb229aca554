use Rattle.std.proofs.Common.{◌≡◌, ◌++◌, length}
use Rattle.std.specs.Vec.Iter.{into_iter_items, into_iter_len}
use Rattle.cip_mps.specs.GroupedRows.{kept_rows}
use Rattle.cip_mps.proofs.table_rows.keep_rows.Given as goal

abbrev pub invariant-loop-row : goal.invariant-loop-row
invariant-loop-row l = record {
  finished : l.finished.items ++ kept_rows l.rest (into_iter_items l.row-iterator) ≡ l.fn.finished.items ++ kept_rows l.fn.heads (into_iter_items l.initial.row-iterator);
  left : into_iter_len l.row-iterator ≡ length (into_iter_items l.row-iterator);
}
