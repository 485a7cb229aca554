-- The definitions tried on rows that were worked out by hand.
use Rattle.std.specs.Prelude.{◌≡◌, ℕ, zero, suc, pos, negsuc, List, [], ◌∷◌, None, Some, replicate}
use Rattle.cip_rational.specs.Rational.{ℚ, whole, ratio, zeroℚ, oneℚ, negate}
use Rattle.cip_problem.specs.Program.{Term, Sides}
use Rattle.cip_problem.specs.Aggregate.{Part, aggregate, bound_of, Empties, implied_sides}

-- 1/2
abbrev pub half : ℚ
half = ratio (pos 1) 2

-- the same coefficient on n columns, of which the first has this number
abbrev pub on_columns : ℕ → ℕ → ℚ → List Term
on_columns zero first coefficient = []
on_columns (suc n) first coefficient =
    record { column = first; coefficient = coefficient } ∷ on_columns n (suc first) coefficient

-- n columns from 0 to 1
abbrev pub unit_box : ℕ → List Sides
unit_box n = replicate n (record { low = Some zeroℚ; high = Some oneℚ })

-- half of 2 x + 2 y at most 3: with the factor -1/2 it is -x - y at least -3/2
abbrev pub half_row : List Part
half_row = record { factor = negate half; terms = on_columns 2 0 (whole 2 0); side = whole 3 0 } ∷ []

-- half of 2 x1 + .. + 2 x5 equal to 5
abbrev pub half_of_five : List Part
half_of_five = record { factor = half; terms = on_columns 5 0 (whole 2 0); side = whole 5 0 } ∷ []

-- x at least 2, and x at most 1 with the factor -1
abbrev pub at_least_two_at_most_one : List Part
at_least_two_at_most_one =
    record { factor = oneℚ; terms = on_columns 1 0 oneℚ; side = whole 2 0 }
    ∷ record { factor = negate oneℚ; terms = on_columns 1 0 oneℚ; side = whole 1 0 } ∷ []

-- a column that is 1
abbrev pub at_one : Sides
at_one = record { low = Some oneℚ; high = Some oneℚ }

-- what these sums come to, and what they imply
pub record Examples : Type 0 where
  pub half_row_is : aggregate 2 half_row
      ≡ record { coefficients = whole 0 1 ∷ whole 0 1 ∷ []; least = ratio (negsuc 2) 2 }
  pub half_of_five_is : bound_of (aggregate 5 half_of_five) (replicate 5 oneℚ) (unit_box 5) ≡ Some (ratio (pos 5) 2)
  pub contradiction_is : aggregate 1 at_least_two_at_most_one ≡ record { coefficients = zeroℚ ∷ []; least = whole 1 0 }
  pub contradiction : (sides : Sides) → Empties (aggregate 1 at_least_two_at_most_one) (sides ∷ [])
  pub implied : implied_sides (aggregate 2 half_row) (at_one ∷ unit_box 1) 1 ≡ record { low = None; high = Some half }
