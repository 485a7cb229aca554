-- The pool of a core, while a node is worked on.
use Rattle.std.specs.Prelude.{◌≡◌, Bool}
use Rattle.cip_rows.specs.RowPools.{Pool}
use Rattle.cip_core.specs.CoreStates.{CoreState}

-- the pool, and whether a row was added or a side tightened since the search began
abbrev pub rows_of : CoreState → Pool × Bool
rows_of core = (core.pool, core.touched)

-- both are the same
abbrev pub HasSameRows : CoreState → CoreState → Type 0
HasSameRows old new = rows_of new ≡ rows_of old
