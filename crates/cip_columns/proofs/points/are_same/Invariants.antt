use Rattle.std.proofs.Common.{◌≡◌, length, take}
use Rattle.cip_columns.proofs.points.are_same.Given as goal

abbrev pub invariant-loop-at : goal.invariant-loop-at
invariant-loop-at l = (length l.a ≡ length l.b) × (take l.at l.a ≡ take l.at l.b)
