use Rattle.std.proofs.Common.{ℕ, List, sym, subst₂}
use Rattle.cip_columns.specs.PoolPoints.{PoolPoint}
use Rattle.cip_columns.specs.PointChains.{AreLinked}
use Rattle.cip_columns.proofs.pools.ColumnPool.add.Goals as goal

pub find-requires-clause-next : goal.find-requires-clause-next
find-requires-clause-next c =
    subst₂ (λ (ps : List PoolPoint) (ls : List ℕ). AreLinked ps ls) (sym c.as_slice-points.ensures.value)
    (sym c.as_slice-links.ensures.value) c.self.invariant.next
