use Rattle.std.proofs.Common.{◌≡◌, length}
use Rattle.cip_rows.specs.RowPools.{usable_in, HaveScopesLike}
use Rattle.cip_rows.proofs.usable.UsableIterator.next.Given as goal

abbrev pub invariant-loop-first : goal.invariant-loop-first
invariant-loop-first l = record {
  scopes : HaveScopesLike l.self-inside.bounds.now l.self-inside.rows.now;
  left : usable_in l.initial.self-inside.bounds.now l.initial.self-inside.rows.now ≡ usable_in l.self-inside.bounds.now l.self-inside.rows.now;
}

abbrev pub decreases-loop-first : goal.decreases-loop-first
decreases-loop-first l = length l.self-inside.rows.now
