use Rattle.std.proofs.Common.{◌≡◌, true, drop, map}
use Rattle.cip_mps.specs.GroupEntries.{far_entry}
use Rattle.cip_mps.specs.GroupedRows.{follow, put_numbers}
use Rattle.cip_mps.proofs.row_terms.put_far.Given as goal

abbrev pub invariant-loop-number : goal.invariant-loop-number
invariant-loop-number l = record {
  follow : follow l.rows.items (map far_entry (drop l.number-index l.far)) ≡ true;
  put : put_numbers l.rows.items (map far_entry (drop l.number-index l.far)) ≡ put_numbers l.fn.rows.items (map far_entry l.far);
}
