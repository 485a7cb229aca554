-- Mixtures of block points: convex combinations of points of each block, with values for the columns of no block.
use Rattle.std.specs.Prelude.{◌≡◌, ℕ, ◌<◌, List, [], ◌∷◌, length, Option, None, Some, ⊤}
use Rattle.std.specs.List.{AllByRecursion, Contains}
use Rattle.cip_rational.specs.Rational.{ℚ, ◌+ℚ◌, zeroℚ, oneℚ}
use Rattle.cip_rational.specs.Sums.{combine, AllNonneg}
use Rattle.cip_problem.specs.Program.{Sides, Program}
use Rattle.cip_problem.specs.Box.{IsInBox}
use Rattle.cip_problem.specs.Points.{IsSatisfied}
use Rattle.cip_pricing.specs.Decomposition.{Decomposition, picked, master_rows, IsBlockPoint}

-- the sum of a list
abbrev pub total : List ℚ → ℚ
total [] = zeroℚ
total (x ∷ xs) = x +ℚ total xs

-- a point is a sum of points of a kind, each with a weight; no weight is below 0, and their sum is 1
pub record IsConvex (Kind : List ℚ → Type 0) (point : List ℚ) : Type 0 where
  pub weights : List ℚ
  pub points : List (List ℚ)
  pub nonneg : AllNonneg weights
  pub one : total weights ≡ oneℚ
  pub paired : length weights ≡ length points
  pub kind : AllByRecursion Kind points
  pub mean : point ≡ combine weights points

-- a point that is held for a block
pub record Held : Type 0 where
  pub block : ℕ
  pub point : List ℚ

-- a point is among those that are held, or any one
abbrev pub IsAmong : Option (List Held) → ℕ → List ℚ → Type 0
IsAmong None block point = ⊤
IsAmong (Some held) block point = Contains held (record { block = block; point = point })

-- a point of a block in a box, among those held if there are such
pub record IsPointAmong (program : Program) (blocks : Decomposition) (box : List Sides) (among : Option (List Held))
    (block : ℕ) (point : List ℚ) : Type 0 where
  pub is_point : IsBlockPoint program blocks box block point
  pub is_among : IsAmong among block point

-- a point of the program is a mixture in a box: each block's part of it is a convex combination of points of the block,
-- and the columns of no block have values between the sides
pub record IsMixture (program : Program) (blocks : Decomposition) (box : List Sides) (among : Option (List Held))
    (point : List ℚ) : Type 0 where
  pub long : length point ≡ length blocks.columns
  pub convex : (block : ℕ) → block < blocks.count
      → IsConvex (IsPointAmong program blocks box among block) (picked (Some block) blocks.columns point)
  pub free : IsInBox (picked None blocks.columns box) (picked None blocks.columns point)

-- a point satisfies the rows of no block
abbrev pub MeetsMaster : Program → Decomposition → List ℚ → Type 0
MeetsMaster program blocks point = AllByRecursion (λ row. IsSatisfied row point) (master_rows program blocks)
