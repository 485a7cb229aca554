-- The definitions tried on rows that were worked out by hand.
use Rattle.std.specs.Prelude.{◌≡◌, ℕ, negsuc, pos, Bool, true, false, List, [], ◌∷◌, Some}
use Rattle.cip_rational.specs.Rational.{ℚ, whole, integer, zeroℚ}
use Rattle.cip_problem.specs.Program.{Term}
use Rattle.cip_problem.specs.Aggregate.{Inequality, aggregate}
use Rattle.cip_problem.specs.LinearExamples.{half, half_row}
use Rattle.cip_problem.specs.Cuts.{CanRound, rounded, rounded_sides, terms_from}
use Rattle.cip_problem.specs.Splits.{IsWholeForm, SplitForm, IsSplitRow}

-- x is whole, and y isn't
abbrev pub first_whole : List Bool
first_whole = true ∷ false ∷ []

-- the form of one column
abbrev pub column_form : ℕ → List Term
column_form column = record { column = column; coefficient = whole 1 0 } ∷ []

-- x is at most 0 or at least 1, with such a factor on the left and the factor 1 on the right
abbrev pub split_at_zero : ℚ → SplitForm
split_at_zero factor = record { form = column_form 0; at = pos 0; left_factor = factor; right_factor = whole 1 0 }

-- 2 x + 2 y at least 1, 2 y at least 0, and x + 2 y at least 1
abbrev pub left_row : Inequality
left_row = record { coefficients = whole 2 0 ∷ whole 2 0 ∷ []; least = whole 1 0 }

abbrev pub right_row : Inequality
right_row = record { coefficients = whole 0 0 ∷ whole 2 0 ∷ []; least = whole 0 0 }

abbrev pub split_row : Inequality
split_row = record { coefficients = whole 1 0 ∷ whole 2 0 ∷ []; least = whole 1 0 }

-- half of 2 x + 2 y at most 3 is x + y at most 3/2, and rounded x + y at most 1 where both are whole: as the negated
-- row its right side goes from -3/2 up to -1; 2 x + 2 y at least 1 less x at most 0, and 2 y at least 0 with x at least
-- 1, are both x + 2 y at least 1, and without the first of these sides no row has both coefficients; y is no whole form
pub record Examples : Type 0 where
  pub can_round : CanRound (true ∷ true ∷ []) (aggregate 2 half_row).coefficients
  pub rounded_row : rounded (aggregate 2 half_row)
      ≡ record { coefficients = whole 0 1 ∷ whole 0 1 ∷ []; least = integer (negsuc 0) }
  pub continuous : ¬ CanRound (true ∷ false ∷ []) (aggregate 2 half_row).coefficients
  pub fractional : ¬ CanRound (true ∷ []) (half ∷ [])
  pub continuous_zero : CanRound (true ∷ false ∷ []) (whole 0 1 ∷ zeroℚ ∷ [])
  pub inward : rounded_sides (record { low = Some half; high = Some half })
      ≡ record { low = Some (integer (pos 1)); high = Some (integer (pos 0)) }
  pub terms : terms_from 0 (whole 0 1 ∷ zeroℚ ∷ whole 2 0 ∷ [])
      ≡ record { column = 0; coefficient = whole 0 1 } ∷ record { column = 2; coefficient = whole 2 0 } ∷ []
  pub split : IsSplitRow first_whole (split_at_zero (whole 1 0)) left_row right_row split_row
  pub without_a_side : (row : Inequality) → ¬ IsSplitRow first_whole (split_at_zero zeroℚ) left_row right_row row
  pub fractional_form : ¬ IsWholeForm first_whole (column_form 1)
