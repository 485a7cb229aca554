use Rattle.std.proofs.Common.{◌≡◌, map}
use Rattle.std.specs.List.{range_with_len}
use Rattle.cip_input.specs.Generated.{cost_from, state_after}
use Rattle.cip_input.proofs.columns.drawn_costs.Given as goal

abbrev pub invariant-loop-column : goal.invariant-loop-column
invariant-loop-column l = record {
  costs : l.costs.items ≡ map (cost_from l.fn.draws.state) (range_with_len 0 l._column);
  state : l.draws.state ≡ state_after l._column l.fn.draws.state;
}
