-- What adding a row to a pool comes to.
use Rattle.std.specs.Prelude.{◌≡◌, Bool, true, false, List}
use Rattle.cip_problem.specs.Program.{Row, Sides}
use Rattle.cip_rows.specs.declared.pools.Added.{Added}
use Rattle.cip_rows.specs.declared.pools.Added.TheVariants.{New, Known, Full}
use Rattle.cip_rows.specs.RowPools.{Pool, IsKnown, IsUnknown, is_full, with_row}

-- the answer where a row with a scope, which rests or doesn't, is added to a pool, and the pool then
abbrev pub IsAdded : Pool → Row → List Sides → Bool → Pool → Added → Type 0
IsAdded before row scope rests after (New id) =
    IsUnknown before.rows row scope × (is_full before ≡ false) × (id ≡ before.next)
    × (after ≡ with_row before row scope rests)
IsAdded before row scope rests after (Known id) = IsKnown before.rows row scope id × (after ≡ before)
IsAdded before row scope rests after Full = IsUnknown before.rows row scope × (is_full before ≡ true) × (after ≡ before)
