use Rattle.std.proofs.Common.{◌≡◌, take, map}
use Rattle.cip_mps.specs.GroupedRows.{empty_row}
use Rattle.cip_mps.proofs.group_rows.rows_with_room.Given as goal

abbrev pub invariant-loop-place : goal.invariant-loop-place
invariant-loop-place l = l.rows.items ≡ map empty_row (take l.place l.heads)
