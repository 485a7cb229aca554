-- The rows that names mean, what has to hold of them, and the entries of a combination.
use Rattle.std.specs.Prelude.{◌≡◌, ℕ, ◌+◌, List, length, Option, IfSome, All}
use Rattle.cip_problem.specs.Program.{Row}
use Rattle.cip_problem.specs.Activity.{StandsBelow}
use Rattle.cip_lin.specs.declared.combos.RowMultiple.{RowMultiple}
use Rattle.cip_lin.specs.declared.combos.ColumnMultiple.{ColumnMultiple}
use Rattle.cip_lin.specs.declared.combos.Combo.{Combo}
use Rattle.cip_cert.specs.declared.rows.PoolRow.{PoolRow}
use Rattle.cip_cert.specs.declared.rows.Rows.{Rows}
use Rattle.cip_cert.specs.Pool.{AreRising}

-- the program's rows, the rows of the pool and the cutoff row
pub record Lent : Type 0 where
  pub own : List Row
  pub pool : List PoolRow
  pub cutoff : Option Row

-- those that are lent
abbrev pub lent_of : Rows → Lent
lent_of rows = record { own = rows.own.now; pool = rows.pool.now; cutoff = rows.cutoff.now }

-- a row of the pool stands on columns of the box, and its scope has as many
pub record KeptFits (columns : ℕ) (kept : PoolRow) : Type 0 where
  pub stands : StandsBelow columns kept.row.terms
  pub scope : length kept.scope ≡ columns

-- all rows stand on columns of a box of so many columns, and the pool is by rising id
pub record Fits (columns : ℕ) (lent : Lent) : Type 0 where
  pub own : All (λ row. StandsBelow columns row.terms) lent.own
  pub pool : All (KeptFits columns) lent.pool
  pub rising : AreRising lent.pool
  pub cutoff : IfSome lent.cutoff (λ row. StandsBelow columns row.terms)

-- rows, low sides of columns and high sides of columns, each with a factor
pub record Multiples : Type 0 where
  pub rows : List RowMultiple
  pub lows : List ColumnMultiple
  pub highs : List ColumnMultiple

-- those of a combination
abbrev pub multiples_of : Combo → Multiples
multiples_of combo = record { rows = combo.rows.items; lows = combo.lows.items; highs = combo.highs.items }

-- how many entries there are
abbrev pub count_of : Multiples → ℕ
count_of combo = length combo.rows + length combo.lows + length combo.highs
