use Rattle.std.proofs.Common.{◌≡◌, ◌*◌, ◌≤◌, None}
use Rattle.cip_input.specs.Generated.{terms_from, total_from, state_after}
use Rattle.cip_input.proofs.rows.drawn_row.Given as goal

abbrev pub invariant-loop-column : goal.invariant-loop-column
invariant-loop-column l = record {
  row : l.row ≡ record { terms = terms_from l.column l.fn.draws.state; low = None; high = None };
  total : l.total ≡ total_from l.column l.fn.draws.state;
  small : l.total ≤ 9 * l.column;
  state : l.draws.state ≡ state_after l.column l.fn.draws.state;
}
