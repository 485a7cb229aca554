use Rattle.std.proofs.Common.{◌≡◌, ◌+◌, ◌<◌, ◌≤◌, ◌^◌, ◌++◌, length, vec_len, vec_capacity}
use Rattle.std.specs.Vec.Iter.{drain_items}
use Rattle.cip_roster.specs.Moved.{numbered}
use Rattle.cip_roster.proofs.moves.return_seated.Given as goal

abbrev pub invariant-loop-seat : goal.invariant-loop-seat
invariant-loop-seat g l = record {
  moved : l.spent.items ++ numbered g.S.Leaves.left l.id (drain_items l.seat-iterator)
      ≡ l.initial.spent.items ++ numbered g.S.Leaves.left 0 (drain_items l.initial.seat-iterator);
  most : length (drain_items l.initial.seat-iterator) < 2 ^ 32;
  numbers : l.id + length (drain_items l.seat-iterator) ≡ length (drain_items l.initial.seat-iterator);
  filled : vec_len l.spent ≡ vec_len l.initial.spent + l.id;
  room : vec_len l.spent + length (drain_items l.seat-iterator) ≤ vec_capacity l.spent;
  capacity : vec_capacity l.spent ≡ vec_capacity l.initial.spent;
}
