-- Pools of block points: the points that are held, by their ids from 0 up.
use Rattle.std.specs.Prelude.{◌≡◌, ◌↔◌, ℕ, ◌<◌, Bool, true, false, ◌&&◌, ◌==◌, List, [], ◌∷◌, ◌++◌, length, slice_index_or, All}
use Rattle.std.specs.List.{filter, Any}
use Rattle.cip_rational.specs.Rational.{ℚ}
use Rattle.cip_problem.specs.Program.{Sides}
use Rattle.cip_problem.specs.Box.{IsInBox, is_between}
use Rattle.cip_columns.specs.PoolPoints.{PoolPoint}
use Rattle.cip_columns.specs.declared.pools.Added.{Added}
use Rattle.cip_columns.specs.declared.pools.Added.TheVariants.{New, Known, Full}

-- the most points that are held
abbrev pub most_points : ℕ
most_points = 65536

-- a point that is held is this one of this block
pub record Serves (block : ℕ) (values : List ℚ) (held : PoolPoint) : Type 0 where
  pub same_block : held.block ≡ block
  pub same_values : held.point ≡ values

-- the point with this id is, and none is
abbrev pub IsKnown : List PoolPoint → ℕ → List ℚ → ℕ → Type 0
IsKnown points block values id = Any (λ (held : PoolPoint). (held.id ≡ id) × Serves block values held) points

abbrev pub IsUnknown : List PoolPoint → ℕ → List ℚ → Type 0
IsUnknown points block values = All (λ held. ¬ Serves block values held) points

-- the ids count up from 0
abbrev pub AreCounted : List PoolPoint → Type 0
AreCounted points = (k : ℕ) (default : PoolPoint) → k < length points → (slice_index_or points k default).id ≡ k

-- a list of values is in a box: it has one for each column, between its sides
abbrev pub is_inside : List Sides → List ℚ → Bool
is_inside [] [] = true
is_inside [] (value ∷ values) = false
is_inside (sides ∷ box) [] = false
is_inside (sides ∷ box) (value ∷ values) = is_between sides.low sides.high value && is_inside box values

-- the points of a block in a box
abbrev pub points_inside : ℕ → List Sides → List PoolPoint → List PoolPoint
points_inside block box points =
    filter (λ (held : PoolPoint). (held.block == block) && is_inside box held.point) points

-- ---- adding

-- the points with another one of a block, which has the next id
abbrev pub with_point : List PoolPoint → ℕ → List ℚ → List PoolPoint
with_point points block values = points ++ record { id = length points; block = block; point = values } ∷ []

-- the answer where a point of a block is added to the points that are held, and the points then
abbrev pub IsAdded : List PoolPoint → ℕ → List ℚ → List PoolPoint → Added → Type 0
IsAdded before block values after (New id) =
    IsUnknown before block values × (length before < most_points) × (id ≡ length before)
    × (after ≡ with_point before block values)
IsAdded before block values after (Known id) = IsKnown before block values id × (after ≡ before)
IsAdded before block values after Full =
    IsUnknown before block values × (length before ≡ most_points) × (after ≡ before)

-- a point of a pool is inside a box exactly where it is a point of the box
abbrev pub InsideMeans : Type 0
InsideMeans = (box : List Sides) (values : List ℚ) → (is_inside box values ≡ true) ↔ IsInBox box values
