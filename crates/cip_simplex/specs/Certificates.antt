-- Certificates on so many columns and, after them, so many rows.
use Rattle.std.specs.Prelude.{ℕ, ◌+◌, ◌-◌, nat_lt, [], ◌∷◌, if◌then◌else◌}
use Rattle.cip_rational.specs.Rational.{ℚ, negate, oneℚ}
use Rattle.cip_bland.specs.Tables.{each}
use Rattle.cip_bland.specs.EndAnswers.{Certificate, any_multiple, low_multiple, high_multiple}

-- that of a multiplier for each variable
abbrev pub certificate_on : ℕ → ℕ → (ℕ → ℚ) → Certificate
certificate_on columns rows y = record {
  rows = each rows (λ r. any_multiple r (y (columns + r)));
  lows = each columns (λ k. low_multiple k (y k));
  highs = each columns (λ k. high_multiple k (y k));
}

-- that of crossed sides of a column, and of a row: the low one by 1 and the high one by -1
abbrev pub crossed_column : ℕ → Certificate
crossed_column v = record {
  rows = [];
  lows = record { number = v; factor = oneℚ } ∷ [];
  highs = record { number = v; factor = negate oneℚ } ∷ [];
}

abbrev pub crossed_row : ℕ → Certificate
crossed_row r = record {
  rows = record { number = r; factor = oneℚ } ∷ record { number = r; factor = negate oneℚ } ∷ [];
  lows = [];
  highs = [];
}

abbrev pub crossed_on : ℕ → ℕ → Certificate
crossed_on columns v = if nat_lt v columns then crossed_column v else crossed_row (v - columns)
