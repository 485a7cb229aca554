-- Pools of rows: the rows that are held, each with its id and its scope, and the id that comes next.
use Rattle.std.specs.Prelude.{◌≡◌, ℕ, Bool, true, ◌||◌, ◌==◌, ◌+◌, ◌<◌, ◌≤◌, ◌^◌, List, [], ◌∷◌, ◌++◌, length, All}
use Rattle.std.specs.List.{filter, Any}
use Rattle.cip_problem.specs.Program.{Row, Sides}
use Rattle.cip_problem.specs.Box.{box_inside}
use Rattle.cip_cert.specs.declared.rows.PoolRow.{PoolRow}
use Rattle.cip_cert.specs.Pool.{AreRising}
use Rattle.cip_cert.specs.Lent.{KeptFits}

-- ---- limits

-- the most rows that are held
abbrev pub most_pool_rows : ℕ
most_pool_rows = 8192

-- the most rows that are left when a pool ages
abbrev pub kept_pool_rows : ℕ
kept_pool_rows = 4096

-- the most ids that are given
abbrev pub most_ids : ℕ
most_ids = 2 ^ 63

-- ---- pools

-- for boxes of so many columns, the rows that are held and the id that the next row gets
pub record Pool : Type 0 where
  pub columns : ℕ
  pub rows : List PoolRow
  pub next : ℕ

-- the rows stand by rising id below the next one, each on columns of the pool and with a scope of as many, and there
-- are no more rows and ids than the limits
pub record IsSoundPool (pool : Pool) : Type 0 where
  pub rising : AreRising pool.rows
  pub given : All (λ kept. kept.id < pool.next) pool.rows
  pub fits : All (KeptFits pool.columns) pool.rows
  pub few : length pool.rows ≤ most_pool_rows
  pub ids : pool.next ≤ most_ids

-- there is no room for a row, or no id left
abbrev pub is_full : Pool → Bool
is_full pool = (length pool.rows == most_pool_rows) || (pool.next == most_ids)

-- the pool with another row, which rests on the cutoff row or doesn't
abbrev pub with_row : Pool → Row → List Sides → Bool → Pool
with_row pool row scope rests = record pool {
  rows = pool.rows ++ record { id = pool.next; row = row; scope = scope; rests = rests } ∷ [];
  next = pool.next + 1;
}

-- ---- scopes

-- each row's scope has as many columns as a box
abbrev pub HaveScopesLike : List Sides → List PoolRow → Type 0
HaveScopesLike box rows = All (λ kept. length kept.scope ≡ length box) rows

-- the rows whose scope holds a box
abbrev pub usable_in : List Sides → List PoolRow → List PoolRow
usable_in box rows = filter (λ kept. box_inside box kept.scope) rows

-- a row that is held is equal to this one, and its scope holds this box
pub record Serves (row : Row) (box : List Sides) (kept : PoolRow) : Type 0 where
  pub equal : kept.row ≡ row
  pub scope : box_inside box kept.scope ≡ true

-- the row with this id does
abbrev pub IsKnown : List PoolRow → Row → List Sides → ℕ → Type 0
IsKnown rows row box id = Any (λ kept. (kept.id ≡ id) × Serves row box kept) rows

-- no row does
abbrev pub IsUnknown : List PoolRow → Row → List Sides → Type 0
IsUnknown rows row box = All (λ kept. ¬ Serves row box kept) rows
