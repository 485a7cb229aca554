-- The points of a group as a chain: the last point of each group, and for each point the one before it in its group.
-- A link to the point with an id is the id and one; 0 is the end.
use Rattle.std.specs.Prelude.{◌≡◌, ◌≢◌, ℕ, ◌+◌, ◌<◌, ◌≤◌, List, length, slice_index_or}
use Rattle.std.specs.List.{HoldsAt}
use Rattle.cip_columns.specs.PointPrints.{group_count, group_of}
use Rattle.cip_columns.specs.PoolPoints.{PoolPoint}
use Rattle.cip_columns.specs.ColumnPools.{most_points, AreCounted}

-- a point that is held is of this group, and of another one
abbrev pub IsOfGroup : ℕ → PoolPoint → Type 0
IsOfGroup group held = group_of held.block held.point ≡ group

abbrev pub IsOfOther : ℕ → PoolPoint → Type 0
IsOfOther group held = group_of held.block held.point ≢ group

-- a link may stand at a place for a group: it names a point of the group before the place, or none, and the points
-- after that one and before the place are of other groups
pub record Skips (points : List PoolPoint) (group link place : ℕ) : Type 0 where
  pub within : link ≤ place
  pub named : (k : ℕ) → k + 1 ≡ link → HoldsAt (IsOfGroup group) points k
  pub others : (k : ℕ) → link ≤ k → k < place → HoldsAt (IsOfOther group) points k

-- the first link of each group leads to its last point
abbrev pub AreFirsts : List PoolPoint → List ℕ → Type 0
AreFirsts points firsts =
    (group : ℕ) → group < group_count → Skips points group (slice_index_or firsts group 0) (length points)

-- the link of each point leads to the one before it in its group
abbrev pub AreLinked : List PoolPoint → List ℕ → Type 0
AreLinked points links =
    (k : ℕ) (default : PoolPoint) → k < length points
    → Skips points (group_of (slice_index_or points k default).block (slice_index_or points k default).point)
    (slice_index_or links k 0) k

-- what holds of a pool: its points stand by their ids, and are chained by their groups
pub record IsSoundPool (points : List PoolPoint) (firsts links : List ℕ) : Type 0 where
  pub few : length points ≤ most_points
  pub counted : AreCounted points
  pub groups : length firsts ≡ group_count
  pub each : length links ≡ length points
  pub first : AreFirsts points firsts
  pub next : AreLinked points links
