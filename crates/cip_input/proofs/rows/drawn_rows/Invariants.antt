use Rattle.std.proofs.Common.{◌≡◌, ◌*◌, map}
use Rattle.std.specs.List.{range_with_len}
use Rattle.cip_input.specs.Generated.{row_from, state_after}
use Rattle.cip_input.proofs.rows.drawn_rows.Given as goal

abbrev pub invariant-loop-number : goal.invariant-loop-number
invariant-loop-number l = record {
  rows : l.rows.items
      ≡ map (λ row. row_from l.columns (state_after (row * l.columns) l.fn.draws.state)) (range_with_len 0 l._number);
  state : l.draws.state ≡ state_after (l._number * l.columns) l.fn.draws.state;
}
