-- Which rows rest on the cutoff row, and what is valid whatever the cost held.
use Rattle.std.specs.Prelude.{◌≡◌, IfSome, Bool, true, false, not, ◌||◌, List, [], ◌∷◌, Option, None, Some, if◌then◌else◌, All}
use Rattle.std.specs.List.{filter}
use Rattle.cip_rational.specs.Rational.{ℚ}
use Rattle.cip_problem.specs.Program.{Sides, Program}
use Rattle.cip_problem.specs.Improving.{IsValidRow}
use Rattle.cip_lin.specs.declared.combos.RowId.{RowId}
use Rattle.cip_lin.specs.declared.combos.RowId.TheVariants.{Own, Pool, Cutoff}
use Rattle.cip_lin.specs.declared.combos.RowMultiple.{RowMultiple}
use Rattle.cip_cert.specs.declared.rows.PoolRow.{PoolRow}
use Rattle.cip_cert.specs.Pool.{pool_row}
use Rattle.cip_cert.specs.Lent.{Lent}

-- a row of the pool rests, if it is there
abbrev pub is_resting : Option PoolRow → Bool
is_resting None = false
is_resting (Some kept) = kept.rests

-- a name is that of the cutoff row, or of a row of the pool that rests
abbrev pub names_resting : List PoolRow → RowId → Bool
names_resting pool (Own number) = false
names_resting pool (Pool id) = is_resting (pool_row pool id)
names_resting pool Cutoff = true

-- the entries of a combination cite such a row
abbrev pub rests_on_cutoff : List PoolRow → List RowMultiple → Bool
rests_on_cutoff pool [] = false
rests_on_cutoff pool (m ∷ ms) = names_resting pool m.row || rests_on_cutoff pool ms

-- the rows that don't rest, in their order
abbrev pub released : List PoolRow → List PoolRow
released pool = filter (λ kept. not kept.rests) pool

-- the rows that are left where the cost held is let go
abbrev pub lent_released : Lent → Lent
lent_released lent = record { own = lent.own; pool = released lent.pool; cutoff = None }

-- the cost below which a row is valid: what rests is so below the cost held, what doesn't below each
abbrev pub valid_below : Option ℚ → Bool → Option ℚ
valid_below held rests = if rests then held else None

-- each row of a pool is valid in its scope, below that cost
abbrev pub ArePoolRowsValid : Program → Option ℚ → List PoolRow → Type 0
ArePoolRowsValid program held pool =
    All (λ kept. IsValidRow program (valid_below held kept.rests) kept.scope kept.row) pool

-- rows are lent that are right for a box: the program's own, valid ones of a pool, and a valid cutoff row
pub record IsLentOf (program : Program) (held : Option ℚ) (box : List Sides) (lent : Lent) : Type 0 where
  pub own : lent.own ≡ program.rows
  pub pool : ArePoolRowsValid program held lent.pool
  pub cutoff : IfSome lent.cutoff (IsValidRow program held box)
