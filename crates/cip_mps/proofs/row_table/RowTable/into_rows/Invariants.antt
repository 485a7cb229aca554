use Rattle.std.proofs.Common.{◌≡◌, ◌++◌, ◌*◌, ◌≤◌, map, length}
use Rattle.std.specs.List.{filter}
use Rattle.std.specs.Vec.Iter.{into_iter_items, into_iter_len}
use Rattle.cip_text_rules.specs.MpsState.{is_kept, finished_row}
use Rattle.cip_mps.proofs.GroupedLaws.{finished}
use Rattle.cip_mps.proofs.row_table.RowTable.into_rows.Given as goal

abbrev pub invariant-loop-group : goal.invariant-loop-group
invariant-loop-group l = record {
  finished : l.finished.items ++ finished l.rest (into_iter_items l.group-iterator) ≡ map finished_row (filter is_kept l.fn.self);
  enough : length l.rest ≤ 64 * length (into_iter_items l.group-iterator);
  left : into_iter_len l.group-iterator ≡ length (into_iter_items l.group-iterator);
}
