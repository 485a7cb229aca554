-- A program of two blocks, worked out by hand: minimise -2 x1 - x2 - 2 y1 - y2 over columns that are 0 or 1, where
-- 2 x1 + 2 x2 is at most 3, so is 2 y1 + 2 y2, and x1 + x2 + y1 + y2 is at most 3.
use Rattle.std.specs.Prelude.{◌≡◌, ℕ, true, false, List, [], ◌∷◌, None, Some}
use Rattle.cip_rational.specs.Rational.{ℚ, whole, zeroℚ, oneℚ}
use Rattle.cip_problem.specs.Program.{Row, Program}
use Rattle.cip_problem.specs.LinearExamples.{half, on_columns, unit_box}
use Rattle.cip_pricing.specs.Decomposition.{Decomposition, IsDecomposed, conditions_of, master_rows, IsBlockPoint}
use Rattle.cip_pricing.specs.Mixtures.{Held, IsMixture}
use Rattle.cip_pricing.specs.LeastCosts.{side_total, ShowsLeast}

-- so many columns, of which the first has this number, all with one coefficient, sum to at most 3
abbrev pub at_most_three : ℕ → ℕ → ℚ → Row
at_most_three count first coefficient =
    record { terms = on_columns count first coefficient; low = None; high = Some (whole 3 0) }

-- the program
abbrev pub example : Program
example = record {
  column_names = (1 ∷ []) ∷ (2 ∷ []) ∷ (3 ∷ []) ∷ (4 ∷ []) ∷ [];
  row_names = (1 ∷ []) ∷ (2 ∷ []) ∷ (3 ∷ []) ∷ [];
  rows = at_most_three 2 0 (whole 2 0) ∷ at_most_three 2 2 (whole 2 0) ∷ at_most_three 4 0 oneℚ ∷ [];
  costs = whole 0 2 ∷ whole 0 1 ∷ whole 0 2 ∷ whole 0 1 ∷ [];
  constant = zeroℚ;
  maximized = false;
  integral = true ∷ true ∷ true ∷ true ∷ [];
  bounds = unit_box 4;
  choices = [];
}

-- its blocks: x1, x2 and the first row; y1, y2 and the second
abbrev pub two_blocks : Decomposition
two_blocks = record {
  count = 2;
  columns = Some 0 ∷ Some 0 ∷ Some 1 ∷ Some 1 ∷ [];
  rows = Some 0 ∷ Some 1 ∷ None ∷ [];
}

-- the point of a block with these values
abbrev pub point_of : ℚ → ℚ → List ℚ
point_of first second = first ∷ second ∷ []

-- 1 and 0 in both blocks
abbrev pub held_in_both : List Held
held_in_both =
    record { block = 0; point = point_of oneℚ zeroℚ } ∷ record { block = 1; point = point_of oneℚ zeroℚ } ∷ []

-- each row of a block stands on the block's columns, and the second block numbers them from 0; 1 and 0 are a point of
-- it, and 1 and 1 aren't; halves of 1, 0 and 0, 1 in the first block and 1, 0 in the second are a mixture, though x1
-- and x2 aren't whole there; at multiplier 0 and the prices -2 each mixture of 1, 0 costs at least -4; and a
-- multiplier above 0 of the last row has no side
pub record Examples : Type 0 where
  pub decomposed : IsDecomposed example two_blocks
  pub master : master_rows example two_blocks ≡ at_most_three 4 0 oneℚ ∷ []
  pub second : (conditions_of example two_blocks 1).rows ≡ at_most_three 2 0 (whole 2 0) ∷ []
  pub point : IsBlockPoint example two_blocks (unit_box 4) 1 (point_of oneℚ zeroℚ)
  pub broken : ¬ IsBlockPoint example two_blocks (unit_box 4) 1 (point_of oneℚ oneℚ)
  pub mixture : IsMixture example two_blocks (unit_box 4) None (half ∷ half ∷ oneℚ ∷ zeroℚ ∷ [])
  pub least : ShowsLeast example two_blocks (unit_box 4) (Some held_in_both) example.costs (zeroℚ ∷ [])
      (whole 0 2 ∷ whole 0 2 ∷ []) (whole 0 4)
  pub no_side : side_total (oneℚ ∷ []) (master_rows example two_blocks) ≡ None
