-- A program that falls into blocks (Dantzig and Wolfe 1960): whose each column and each row is, what a block picks of a
-- list with an entry for each column or row, and the points of a block.
use Rattle.std.specs.Prelude.{◌≡◌, ℕ, zero, suc, ◌<◌, ◌==◌, Bool, true, false, List, [], ◌∷◌, length, map, Option, None, Some, IfSome, if◌then◌else◌, slice_get, ⊤}
use Rattle.std.specs.List.{AllZip, AllByRecursion}
use Rattle.cip_rational.specs.Rational.{ℚ}
use Rattle.cip_problem.specs.Program.{Term, Sides, Row, Choice, Program}
use Rattle.cip_problem.specs.Box.{IsInBox}
use Rattle.cip_problem.specs.Choices.{KeepsChoices}
use Rattle.cip_problem.specs.Points.{IsSatisfied, AreWhole}
use Rattle.cip_problem.specs.WellFormed.{columns}

-- whose a column or a row is: of a block, by its number, or of none; a row of none is a master row, a column of none is
-- free
abbrev pub Owner : Type 0
Owner = Option ℕ

-- how many blocks there are, and whose each column and each row is
pub record Decomposition : Type 0 where
  pub count : ℕ
  pub columns : List Owner
  pub rows : List Owner

-- ---- what an owner picks

-- two owners are one
abbrev pub same_owner : Owner → Owner → Bool
same_owner None None = true
same_owner None (Some k) = false
same_owner (Some j) None = false
same_owner (Some j) (Some k) = j == k

-- the entries that are an owner's, in their order
abbrev pub picked : {X : Type 0} → Owner → List Owner → List X → List X
picked who [] xs = []
picked who (owner ∷ owners) [] = []
picked who (owner ∷ owners) (x ∷ xs) =
    if same_owner owner who then x ∷ picked who owners xs else picked who owners xs

-- the place of a column among those of its owner
abbrev pub place : Owner → List Owner → ℕ → ℕ
place who [] column = zero
place who (owner ∷ owners) zero = zero
place who (owner ∷ owners) (suc column) =
    if same_owner owner who then suc (place who owners column) else place who owners column

-- a row whose terms name columns by their places among an owner's
abbrev pub renumbered : Owner → List Owner → Row → Row
renumbered who owners row =
    record row { terms = map (λ (t : Term). record t { column = place who owners t.column }) row.terms }

-- ---- decompositions of a program

-- an owner is none, or one of so many blocks
abbrev pub IsOwner : ℕ → Owner → Type 0
IsOwner count owner = IfSome owner (λ block. block < count)

-- each term of a row stands on a column of a block
abbrev pub StandsOn : List Owner → ℕ → Row → Type 0
StandsOn owners block row = AllByRecursion (λ (t : Term). slice_get owners t.column ≡ Some (Some block)) row.terms

-- a row of a block stands on columns of that block
abbrev pub IsOwnRow : List Owner → Owner → Row → Type 0
IsOwnRow owners None row = ⊤
IsOwnRow owners (Some block) row = StandsOn owners block row

-- each column and each row of the program has an owner, and rows of blocks stand on columns of the same block
pub record IsDecomposed (program : Program) (blocks : Decomposition) : Type 0 where
  pub each_column : length blocks.columns ≡ columns program
  pub column_owners : AllByRecursion (IsOwner blocks.count) blocks.columns
  pub own_rows : AllZip (IsOwnRow blocks.columns) blocks.rows program.rows

-- the rows of no block
abbrev pub master_rows : Program → Decomposition → List Row
master_rows program blocks = picked None blocks.rows program.rows

-- ---- the points of a block

-- rows, whole columns and choices, without costs and without a box
pub record Conditions : Type 0 where
  pub rows : List Row
  pub integral : List Bool
  pub choices : List Choice

-- what a block asks of its points, its columns and its rows being numbered by their places in the block
abbrev pub conditions_of : Program → Decomposition → ℕ → Conditions
conditions_of program blocks block = record {
  rows = map (renumbered (Some block) blocks.columns) (picked (Some block) blocks.rows program.rows);
  integral = picked (Some block) blocks.columns program.integral;
  choices = picked (Some block) blocks.columns program.choices;
}

-- a point of a box satisfies the rows, its whole columns have whole values, and semi-continuous ones are 0 or lie
-- between their own sides
pub record IsPointOf (conditions : Conditions) (box : List Sides) (point : List ℚ) : Type 0 where
  pub within : IsInBox box point
  pub whole : AreWhole conditions.integral point
  pub choices : KeepsChoices conditions.choices point
  pub rows : AllByRecursion (λ row. IsSatisfied row point) conditions.rows

-- a point of a block, in the sides that a box of the program has for the block's columns
abbrev pub IsBlockPoint : Program → Decomposition → List Sides → ℕ → List ℚ → Type 0
IsBlockPoint program blocks box block point =
    IsPointOf (conditions_of program blocks block) (picked (Some block) blocks.columns box) point
