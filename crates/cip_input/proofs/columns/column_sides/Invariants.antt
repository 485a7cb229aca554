use Rattle.std.proofs.Common.{◌≡◌}
use Rattle.std.specs.Prelude.{replicate}
use Rattle.cip_input.specs.Generated.{zero_to_three}
use Rattle.cip_input.proofs.columns.column_sides.Given as goal

abbrev pub invariant-loop-column : goal.invariant-loop-column
invariant-loop-column l = l.bounds ≡ replicate l._column zero_to_three
