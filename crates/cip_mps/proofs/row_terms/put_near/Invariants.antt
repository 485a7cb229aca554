use Rattle.std.proofs.Common.{◌≡◌, true, drop, map}
use Rattle.cip_mps.specs.GroupEntries.{near_entry}
use Rattle.cip_mps.specs.GroupedRows.{follow, put_numbers}
use Rattle.cip_mps.proofs.row_terms.put_near.Given as goal

abbrev pub invariant-loop-number : goal.invariant-loop-number
invariant-loop-number l = record {
  follow : follow l.rows.items (map near_entry (drop l.number-index l.near)) ≡ true;
  put : put_numbers l.rows.items (map near_entry (drop l.number-index l.near)) ≡ put_numbers l.fn.rows.items (map near_entry l.near);
}
