-- Certificates of multipliers that stand in a list.
use Rattle.std.proofs.Common.{◌≡◌, ℕ, ◌+◌, ◌-◌, ◌<◌, List, length, ap, ◌∙◌, arith}
use Rattle.cip_rational.specs.Rational.{ℚ, zeroℚ}
use Rattle.cip_problem.specs.Activity.{value_at}
use Rattle.cip_bland.specs.Tables.{table, each}
use Rattle.cip_bland.proofs.Tables.{length-table, at_table}
use Rattle.cip_dict.proofs.Chains.{each_same}
use Rattle.cip_bland.specs.EndAnswers.{any_multiple, low_multiple, high_multiple}
use Rattle.cip_simplex.specs.Certificates.{certificate_on}

-- ys is the table of f, which has so many columns and rows
module _ (ys : List ℚ) (columns rows n : ℕ) (f : ℕ → ℚ) (e : ys ≡ table n f) (all : n ≡ columns + rows) where
  pub long : length ys ≡ columns + rows
  long = ap length e ∙ length-table n f ∙ all

  read : (k : ℕ) → k < n → value_at ys k ≡ f k
  read k l = ap (λ xs. value_at xs k) e ∙ at_table n f k zeroℚ l

  same_rows : each rows (λ r. any_multiple r (value_at ys (columns + r))) ≡ each rows (λ r. any_multiple r (f (columns + r)))
  same_rows = each_same rows _ _ (λ r l. ap (any_multiple r) (read (columns + r) (omega (arith, l, all))))

  same_lows : each columns (λ k. low_multiple k (value_at ys k)) ≡ each columns (λ k. low_multiple k (f k))
  same_lows = each_same columns _ _ (λ k l. ap (low_multiple k) (read k (omega (arith, l, all))))

  same_highs : each columns (λ k. high_multiple k (value_at ys k)) ≡ each columns (λ k. high_multiple k (f k))
  same_highs = each_same columns _ _ (λ k l. ap (high_multiple k) (read k (omega (arith, l, all))))

  pub same_certificate : certificate_on columns (length ys - columns) (value_at ys) ≡ certificate_on columns rows f
  same_certificate =
      let count : length ys - columns ≡ rows = omega (arith, long) in
      ap (λ m. certificate_on columns m (value_at ys)) count
      ∙ ap (λ rs. record { rows = rs; lows = each columns (λ k. low_multiple k (value_at ys k)); highs = each columns (λ k. high_multiple k (value_at ys k)) }) same_rows
      ∙ ap (λ ls. record { rows = each rows (λ r. any_multiple r (f (columns + r))); lows = ls; highs = each columns (λ k. high_multiple k (value_at ys k)) }) same_lows
      ∙ ap (λ hs. record { rows = each rows (λ r. any_multiple r (f (columns + r))); lows = each columns (λ k. low_multiple k (f k)); highs = hs }) same_highs
