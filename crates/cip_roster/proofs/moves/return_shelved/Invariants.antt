use Rattle.std.proofs.Common.{◌≡◌, ◌+◌, ◌≤◌, ◌++◌, count_by, vec_len, vec_capacity}
use Rattle.std.specs.Prelude.{is_some}
use Rattle.std.specs.Vec.Iter.{drain_items}
use Rattle.cip_roster.specs.Moved.{unnumbered}
use Rattle.cip_roster.proofs.moves.return_shelved.Given as goal

abbrev pub invariant-loop-held : goal.invariant-loop-held
invariant-loop-held g l = record {
  moved : l.spent.items ++ unnumbered g.P.Leaves.left (drain_items l.held-iterator)
      ≡ l.initial.spent.items ++ unnumbered g.P.Leaves.left (drain_items l.initial.held-iterator);
  room : vec_len l.spent + count_by is_some (drain_items l.held-iterator) ≤ vec_capacity l.spent;
}
