use Rattle.std.proofs.Common.{◌≡◌, ◌*◌, ◌≤◌, length, take}
use Rattle.std.specs.Prelude.{sum_by}
use Rattle.cip_problem.specs.Limits.{most_columns}
use Rattle.cip_input.proofs.counts.entries.Given as goal

abbrev pub invariant-loop-row : goal.invariant-loop-row
invariant-loop-row l = record {
  counted : l.entries ≡ sum_by (λ row. length row.terms) (take l.row-index l.rows);
  small : l.entries ≤ l.row-index * most_columns;
}
