-- How many whole assignments a box has: choices of one whole value between the sides for each whole column.
-- The module below has the laws.
use Rattle.std.specs.Prelude.{◌≡◌, ◌≢◌, ℕ, zero, suc, ◌+◌, ◌*◌, ◌≤◌, ℤ, pos, negsuc, ◌+ℤ◌, ◌-ℤ◌, Bool, true, false, List, [], ◌∷◌, Option, None, Some, ⊤}
use Rattle.std.specs.List.{AllZip}
use Rattle.cip_rational.specs.Rational.{ℚ, integer, IsWhole, floor, ceil}
use Rattle.cip_problem.specs.Program.{Sides}
use Rattle.cip_problem.specs.Box.{Between}

-- a whole number as a count: one below 0 counts as 0
abbrev pub count : ℤ → ℕ
count (pos n) = n
count (negsuc n) = 0

-- how many whole numbers lie between two sides; None says infinitely many
abbrev pub wholes_between : Option ℚ → Option ℚ → Option ℕ
wholes_between None high = None
wholes_between (Some low) None = None
wholes_between (Some low) (Some high) = Some (count ((floor high +ℤ pos 1) -ℤ ceil low))

-- a product of numbers of choices: 0 where either is 0, also where the other is infinite
abbrev pub times : Option ℕ → Option ℕ → Option ℕ
times (Some m) (Some n) = Some (m * n)
times (Some zero) None = Some 0
times (Some (suc m)) None = None
times None (Some zero) = Some 0
times None (Some (suc n)) = None
times None None = None

-- the number of whole assignments of a box
abbrev pub assignments : List Bool → List Sides → Option ℕ
assignments [] box = Some 1
assignments (whole ∷ others) [] = Some 1
assignments (true ∷ others) (sides ∷ box) = times (wholes_between sides.low sides.high) (assignments others box)
assignments (false ∷ others) (sides ∷ box) = assignments others box

-- a sum of numbers of choices, infinite where one of them is
abbrev pub plus : Option ℕ → Option ℕ → Option ℕ
plus None n = None
plus (Some m) None = None
plus (Some m) (Some n) = Some (m + n)

-- a number of choices is at most another; each is at most infinitely many
abbrev pub AtMost : Option ℕ → Option ℕ → Type 0
AtMost m None = ⊤
AtMost None (Some n) = ⊥
AtMost (Some m) (Some n) = m ≤ n

-- a whole number lies between the sides
pub record HasWhole (sides : Sides) : Type 0 where
  pub number : ℤ
  pub between : Between sides.low sides.high (integer number)

-- two different whole numbers lie between two sides
pub record HasTwoWholes (low high : Option ℚ) : Type 0 where
  pub first : ℤ
  pub second : ℤ
  pub apart : first ≢ second
  pub first_between : Between low high (integer first)
  pub second_between : Between low high (integer second)

-- each whole column of a box has a whole value
abbrev pub AllHaveWholes : List Bool → List Sides → Type 0
AllHaveWholes integral box = AllZip (λ whole sides. whole ≡ true → HasWhole sides) integral box

-- a side of a column is there, and is a whole number
abbrev pub IsWholeSide : Option ℚ → Type 0
IsWholeSide None = ⊥
IsWholeSide (Some side) = IsWhole side

-- both sides of a column are there, and are whole numbers
abbrev pub HasWholeSides : Sides → Type 0
HasWholeSides sides = IsWholeSide sides.low × IsWholeSide sides.high
