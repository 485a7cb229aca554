-- The rows of a node's linear program: those of the program, and behind them the rows of the pool that may be used in
-- the node's box; and how a combination names them.
use Rattle.std.specs.Prelude.{◌≡◌, ℕ, ◌-◌, nat_lt, List, map, Option, None, Some, slice_get, if◌then◌else◌}
use Rattle.cip_problem.specs.Program.{Sides}
use Rattle.cip_lin.specs.declared.combos.RowId.{RowId}
use Rattle.cip_lin.specs.declared.combos.RowId.TheVariants.{Own, Pool, Cutoff}
use Rattle.cip_lin.specs.declared.combos.RowMultiple.{RowMultiple}
use Rattle.cip_lin.specs.declared.combos.Combo.{Combo}
use Rattle.cip_bland.specs.EndAnswers.{Certificate}
use Rattle.cip_cert.specs.declared.rows.PoolRow.{PoolRow}
use Rattle.cip_rows.specs.RowPools.{usable_in}
use Rattle.cip_simplex.specs.LpAnswers.{row_multiple, column_multiple}
pub use Rattle.cip_basis.specs.Shown.{usable_rows}

-- the ids of the rows of the pool that may be used in a box
abbrev pub usable_ids : List Sides → List PoolRow → List ℕ
usable_ids box pool = map (λ kept. kept.id) (usable_in box pool)

-- the name of a row behind the program's own, by its place; another name stays
abbrev pub pool_name : ℕ → Option ℕ → RowId
pool_name number None = Own number
pool_name number (Some id) = Pool id

abbrev pub named : ℕ → List ℕ → RowId → RowId
named own ids (Own number) = if nat_lt number own then Own number else pool_name number (slice_get ids (number - own))
named own ids (Pool id) = Pool id
named own ids Cutoff = Cutoff

abbrev pub named_multiple : ℕ → List ℕ → RowMultiple → RowMultiple
named_multiple own ids m = record { row = named own ids m.row; factor = m.factor }

-- a combination is a certificate whose rows are named so
pub record IsNamed (own : ℕ) (ids : List ℕ) (c : Certificate) (combo : Combo) : Type 0 where
  pub rows : combo.rows.items ≡ map (named_multiple own ids) (map row_multiple c.rows)
  pub lows : combo.lows.items ≡ map column_multiple c.lows
  pub highs : combo.highs.items ≡ map column_multiple c.highs
