-- What is shown of a linear program.
use Rattle.std.specs.Prelude.{◌≡◌, List, ◌++◌, map, length, None}
use Rattle.std.specs.Borrow.{Bor}
use Rattle.cip_problem.specs.Program.{Sides, Row}
use Rattle.cip_problem.specs.LinearProgram.{LinearProgram, HasNoPoint, CostsAtLeast, IsOptimal}
use Rattle.cip_cert.specs.declared.rows.PoolRow.{PoolRow}
use Rattle.cip_cert.specs.Lent.{Lent, Fits}
use Rattle.cip_rows.specs.RowPools.{usable_in}
use Rattle.cip_basis.specs.declared.problem.Problem.{Problem}
use Rattle.cip_basis.specs.declared.shown.Shown.{Shown}
use Rattle.cip_basis.specs.declared.shown.Shown.TheVariants.{Optimal, Empty}
use Rattle.cip_basis.specs.declared.safe.Safe.{Safe}
use Rattle.cip_basis.specs.declared.safe.Safe.TheVariants.{Bound, Empty as HasNone}

-- rows that are lent
abbrev pub lent_rows : List (Bor Row) → List Row
lent_rows rows = map (λ row. row.now) rows

-- the rows of a pool that may be used in a box
abbrev pub usable_rows : List Sides → List PoolRow → List Row
usable_rows box pool = map (λ kept. kept.row) (usable_in box pool)

-- the linear program that is lent
abbrev pub program_of : Problem → LinearProgram
program_of problem = record {
  rows = problem.own.now ++ lent_rows problem.others.now;
  bounds = problem.bounds.now;
  costs = problem.costs.now;
}

-- rows that stay and those of a pool, without a cutoff row
abbrev pub without_cutoff : List Row → List PoolRow → Lent
without_cutoff own pool = record { own = own; pool = pool; cutoff = None }

-- each column has a cost, all rows stand on columns of the box, and the others are those of the pool that may be used
-- there
pub record IsReady (problem : Problem) : Type 0 where
  pub costs : length problem.costs.now ≡ length problem.bounds.now
  pub fits : Fits (length problem.bounds.now) (without_cutoff problem.own.now problem.pool.now)
  pub others : lent_rows problem.others.now ≡ usable_rows problem.bounds.now problem.pool.now

-- a point of least cost, and that cost; or that there is no point
abbrev pub IsShown : LinearProgram → Shown → Type 0
IsShown program (Optimal point cost combo) = IsOptimal program point.items cost
IsShown program Empty = HasNoPoint program

-- no point costs less; or there is no point
abbrev pub IsSafe : LinearProgram → Safe → Type 0
IsSafe program (Bound cost) = CostsAtLeast program cost
IsSafe program HasNone = HasNoPoint program
