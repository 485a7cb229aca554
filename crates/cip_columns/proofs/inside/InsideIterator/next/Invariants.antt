use Rattle.std.proofs.Common.{◌≡◌, length}
use Rattle.cip_columns.specs.ColumnPools.{points_inside}
use Rattle.cip_columns.proofs.inside.InsideIterator.next.Given as goal

abbrev pub invariant-loop-first : goal.invariant-loop-first
invariant-loop-first l =
    points_inside l.initial.self-inside.block l.initial.self-inside.bounds.now l.initial.self-inside.points.now
    ≡ points_inside l.self-inside.block l.self-inside.bounds.now l.self-inside.points.now

abbrev pub decreases-loop-first : goal.decreases-loop-first
decreases-loop-first l = length l.self-inside.points.now
