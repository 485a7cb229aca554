-- What becomes of a pool as points are offered to it, and what is told of those that are dropped.
use Rattle.std.specs.Prelude.{◌≡◌, ℕ, suc, ◌<◌, List, [], ◌∷◌, ◌++◌, length, All}
use Rattle.std.specs.List.{Any, Contains}
use Rattle.cip_rational.specs.Rational.{ℚ}
use Rattle.cip_cert.specs.declared.pricing.BlockPoint.{BlockPoint}
use Rattle.cip_columns.specs.PoolPoints.{PoolPoint}
use Rattle.cip_columns.specs.ColumnPools.{most_points, Serves, IsUnknown}
use Rattle.cip_columns.specs.declared.pools.Added.{Added}
use Rattle.cip_columns.specs.declared.pools.Added.TheVariants.{New, Known, Full as NoRoom}
use Rattle.cip_master.specs.BlockVerdicts.{block_verdict}
use Rattle.cip_master.specs.declared.verdicts.PointVerdict.{PointVerdict}
use Rattle.cip_master.specs.declared.verdicts.PointVerdict.TheVariants.{Good, WrongCount, BreaksBound, BreaksWhole, BreaksRow, Wide}
use Rattle.cip_master.specs.MasterTasks.{Task}
use Rattle.cip_price.specs.Asks.{Told, Drops}
use Rattle.cip_price.specs.declared.offering.Growth.{Growth}
use Rattle.cip_price.specs.declared.offering.Growth.TheVariants.{Same, Grown, Full}

-- points were put at the end
abbrev pub Grows : List PoolPoint → List PoolPoint → Type 0
Grows before after = (more : List PoolPoint) × (after ≡ before ++ more)

-- a point of a block is held
abbrev pub IsIn : List PoolPoint → ℕ → List ℚ → Type 0
IsIn points block values = Any (Serves block values) points

-- a list of values is a point of a block of the program
abbrev pub IsGood : Task → ℕ → List ℚ → Type 0
IsGood task block values = block_verdict task.program task.kept block values ≡ Good

-- each of these that is a point of the block is held
abbrev pub AreIn : Task → ℕ → List PoolPoint → List BlockPoint → Type 0
AreIn task block points brought =
    All (λ (p : BlockPoint). IsGood task block p.values.items → IsIn points block p.values.items) brought

-- the pool is full, and one of these that is a point of the block isn't held
pub record IsLeftOut (task : Task) (block : ℕ) (points : List PoolPoint) (brought : List BlockPoint) : Type 0 where
  pub full : length points ≡ most_points
  pub point : BlockPoint
  pub is_brought : Contains brought point
  pub good : IsGood task block point.values.items
  pub unknown : IsUnknown points block point.values.items

-- the pool before and after these were offered for a block, one after another: it is as it was, and holds all that are
-- points of the block; it has grown, and holds them; or it is full, with one left out
abbrev pub IsOffered : Task → ℕ → List BlockPoint → List PoolPoint → List PoolPoint → Growth → Type 0
IsOffered task block brought before after Same = (after ≡ before) × AreIn task block after brought
IsOffered task block brought before after Grown =
    Grows before after × (length before < length after) × AreIn task block after brought
IsOffered task block brought before after Full = Grows before after × IsLeftOut task block after brought

-- one growth behind another
abbrev pub joint : Growth → Growth → Growth
joint Same next = next
joint Grown Same = Grown
joint Grown Grown = Grown
joint Grown Full = Full
joint Full next = Full

-- what became of the pool, by what adding a point came to
abbrev pub growth_of : Added → Growth
growth_of (New id) = Grown
growth_of (Known id) = Same
growth_of NoRoom = Full

-- ---- points that are dropped

-- that the point at a place of an answer is dropped
abbrev pub drop_at : (block place : ℕ) → PointVerdict → Told
drop_at block place verdict = Drops (record { block = block; place = place; verdict = verdict })

-- what is told of it, by the verdict: it is dropped unless that is good
abbrev pub drop_by : (block place : ℕ) → PointVerdict → List Told
drop_by block place Good = []
drop_by block place WrongCount = drop_at block place WrongCount ∷ []
drop_by block place (BreaksBound column) = drop_at block place (BreaksBound column) ∷ []
drop_by block place (BreaksWhole column) = drop_at block place (BreaksWhole column) ∷ []
drop_by block place (BreaksRow row value) = drop_at block place (BreaksRow row value) ∷ []
drop_by block place (Wide row) = drop_at block place (Wide row) ∷ []

abbrev pub drop_of : Task → (block place : ℕ) → BlockPoint → List Told
drop_of task block place point =
    drop_by block place (block_verdict task.program task.kept block point.values.items)

-- what is told of points, one after another, from a place on
abbrev pub drops_from : Task → (block place : ℕ) → List BlockPoint → List Told
drops_from task block place [] = []
drops_from task block place (point ∷ points) =
    drop_of task block place point ++ drops_from task block (suc place) points
