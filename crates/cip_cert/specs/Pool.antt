-- Rows of the pool by their ids.
use Rattle.std.specs.Prelude.{ℕ, ◌==◌, ◌<◌, List, [], ◌∷◌, length, Option, None, Some, if◌then◌else◌, slice_index_or}
use Rattle.cip_cert.specs.declared.rows.PoolRow.{PoolRow}

-- the first row of the pool with an id
abbrev pub pool_row : List PoolRow → ℕ → Option PoolRow
pool_row [] id = None
pool_row (kept ∷ others) id = if kept.id == id then Some kept else pool_row others id

-- the rows stand by rising id
abbrev pub AreRising : List PoolRow → Type 0
AreRising pool =
    (j k : ℕ) (default : PoolRow) → j < k → k < length pool
    → (slice_index_or pool j default).id < (slice_index_or pool k default).id
