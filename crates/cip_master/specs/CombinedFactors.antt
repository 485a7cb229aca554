-- The factors that a combination has on rows, by their numbers: those of the master rows are multipliers, and those of
-- the rows behind them prices.
use Rattle.std.specs.Prelude.{ℕ, ◌-◌, nat_le, List, [], ◌∷◌, length, replicate, if◌then◌else◌, slice_set}
use Rattle.cip_rational.specs.Rational.{ℚ, zeroℚ}
use Rattle.cip_lin.specs.declared.combos.RowId.{RowId}
use Rattle.cip_lin.specs.declared.combos.RowId.TheVariants.{Own, Pool, Cutoff}
use Rattle.cip_lin.specs.declared.combos.RowMultiple.{RowMultiple}
use Rattle.cip_lin.specs.declared.combos.Combo.{Combo}
use Rattle.cip_lagrange.specs.declared.parts.Decomposed.{Decomposed}

-- a factor at the place of its row, counted from a first number; a row before that, or past the end, changes nothing
abbrev pub factor_put : (first : ℕ) → RowId → ℚ → List ℚ → List ℚ
factor_put first (Own number) factor factors =
    if nat_le first number then slice_set factors (number - first) factor else factors
factor_put first (Pool id) factor factors = factors
factor_put first Cutoff factor factors = factors

-- so with factors of rows, one after another
abbrev pub factors_put : (first : ℕ) → List RowMultiple → List ℚ → List ℚ
factors_put first [] factors = factors
factors_put first (m ∷ ms) factors = factors_put first ms (factor_put first m.row m.factor factors)

-- so many factors from a first number on; 0 where the combination has none
abbrev pub factors_from : (first count : ℕ) → Combo → List ℚ
factors_from first count combo = factors_put first combo.rows.items (replicate count zeroℚ)

-- a multiplier for each master row, and a price for each block
abbrev pub multipliers_in : Decomposed → Combo → List ℚ
multipliers_in kept combo = factors_from 0 (length kept.blocks.master_rows) combo

abbrev pub prices_in : Decomposed → Combo → List ℚ
prices_in kept combo = factors_from (length kept.blocks.master_rows) (length kept.subproblems.items) combo
