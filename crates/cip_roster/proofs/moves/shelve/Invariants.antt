use Rattle.std.proofs.Common.{◌≡◌, ◌+◌, ◌≤◌, ◌++◌, Some, length, map, vec_len, vec_capacity}
use Rattle.std.specs.Vec.Iter.{drain_items}
use Rattle.cip_roster.proofs.moves.shelve.Given as goal

abbrev pub invariant-loop-plugin : goal.invariant-loop-plugin
invariant-loop-plugin g l = record {
  moved : l.shelf.items ++ map (λ p. Some p) (drain_items l.plugin-iterator)
      ≡ l.initial.shelf.items ++ map (λ p. Some p) (drain_items l.initial.plugin-iterator);
  room : vec_len l.shelf + length (drain_items l.plugin-iterator) ≤ vec_capacity l.shelf;
}
