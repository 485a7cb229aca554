-- What becomes of a point that is offered for a block: it is dropped, with the verdict on it, or added to the pool.
use Rattle.std.specs.Prelude.{◌≡◌, ◌≢◌, ℕ, List}
use Rattle.cip_rational.specs.Rational.{ℚ}
use Rattle.cip_problem.specs.Program.{Program}
use Rattle.cip_columns.specs.PoolPoints.{PoolPoint}
use Rattle.cip_columns.specs.ColumnPools.{IsAdded}
use Rattle.cip_lagrange.specs.declared.parts.Decomposed.{Decomposed}
use Rattle.cip_master.specs.BlockVerdicts.{block_verdict}
use Rattle.cip_master.specs.declared.verdicts.PointVerdict.TheVariants.{Good}
use Rattle.cip_master.specs.declared.taking.Taken.{Taken}
use Rattle.cip_master.specs.declared.taking.Taken.TheVariants.{Offered, Dropped}

-- the points that a pool holds before and after a point of a block was offered, and the answer
abbrev pub IsTaken : Program → Decomposed → ℕ → List ℚ → List PoolPoint → List PoolPoint → Taken → Type 0
IsTaken program kept block values before after (Offered added) =
    (block_verdict program kept block values ≡ Good) × IsAdded before block values after added
IsTaken program kept block values before after (Dropped verdict) =
    (verdict ≡ block_verdict program kept block values) × (verdict ≢ Good) × (after ≡ before)
