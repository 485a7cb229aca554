use Rattle.std.proofs.Common.{◌≡◌, ◌++◌, map}
use Rattle.cip_rows.specs.RowPools.{usable_in}
use Rattle.cip_relax.proofs.rows.UsableRows.gather.Given as goal

abbrev pub invariant-loop-kept : goal.invariant-loop-kept
invariant-loop-kept l = record {
  rows : map (λ row. row.now) l.rows.items ≡ map (λ kept. kept.now.row) l.yielded;
  ids : l.ids.items ≡ map (λ kept. kept.now.id) l.yielded;
  told : map (λ kept. kept.now) l.yielded ++ l.kept-iterator ≡ usable_in l.bounds l.pool.rows;
}
