-- Rows to which the weight of one more point is added.
use Rattle.std.specs.Prelude.{ℕ, suc, ◌||◌, List, [], ◌∷◌, ◌++◌, Result, Ok, Err, if◌then◌else◌, slice_index_or, slice_set}
use Rattle.cip_rational.specs.Rational.{ℚ, zeroℚ, lt_test}
use Rattle.cip_frac.specs.declared.operations.Wide.{Wide}
use Rattle.cip_problem.specs.Program.{Term, Row, no_row}

-- a row with a coefficient on a weight, which is behind its other columns; 0 gives no term
abbrev pub with_weight : ℕ → ℚ → Row → Row
with_weight column coefficient own =
    if lt_test zeroℚ coefficient || lt_test coefficient zeroℚ
    then record own { terms = own.terms ++ record { column = column; coefficient = coefficient } ∷ [] } else own

-- what comes after a coefficient: an overflow stays
abbrev pub rows_then : Result ℚ Wide → (ℚ → Result (List Row) Wide) → Result (List Row) Wide
rows_then (Ok q) next = next q
rows_then (Err wide) next = Err wide

-- rows with the coefficients that the master rows with these numbers have at a point, one after another, the first of
-- them at this place
abbrev pub weighted : (List Term → Result ℚ Wide) → (column : ℕ) → List Row → (first : ℕ) → List ℕ → List Row
    → Result (List Row) Wide
weighted coefficient column rows first [] owns = Ok owns
weighted coefficient column rows first (number ∷ numbers) owns =
    rows_then (coefficient (slice_index_or rows number no_row).terms)
    (λ q. weighted coefficient column rows (suc first) numbers
    (slice_set owns first (with_weight column q (slice_index_or owns first no_row))))
