-- What the linear program of a node says of the improving points in its box.
use Rattle.std.specs.Prelude.{◌≡◌, List, length, Option, Some}
use Rattle.std.specs.List.{Contains}
use Rattle.cip_rational.specs.Rational.{ℚ, integer, ceil}
use Rattle.cip_problem.specs.Program.{Sides, Program}
use Rattle.cip_problem.specs.Box.{IsInBox}
use Rattle.cip_problem.specs.LinearProgram.{IsPoint, HasNoPoint}
use Rattle.cip_problem.specs.Improving.{IsImproving, IsValidRow, IsBoundIn, HasNoImproving}
use Rattle.cip_cert.specs.declared.rows.PoolRow.{PoolRow}
use Rattle.cip_cert.specs.Lent.{Lent}
use Rattle.cip_search.specs.Relaxation.{IsRelaxedBound}
use Rattle.cip_relax.specs.NodeRows.{usable_rows}
use Rattle.cip_relax.specs.Relaxing.{node_program, ShowsLeast, ShowsBound, ShowsNear, ShowsFalling}

-- each row of a pool is valid in its scope, which has a column for each of the box
pub record IsValidPool (program : Program) (held : Option ℚ) (box : List Sides) (pool : List PoolRow) : Type 0 where
  pub valid : (kept : PoolRow) → Contains pool kept → IsValidRow program held kept.scope kept.row
  pub long : (kept : PoolRow) → Contains pool kept → length box ≡ length kept.scope

-- over the rows of a program and those of a valid pool
pub record NodeProgramsTell (program : Program) (held : Option ℚ) (lent : Lent) (box : List Sides) : Type 0 where
  -- an improving point in the box is a point of the linear program
  pub points : (point : List ℚ) → IsImproving program held point → IsInBox box point
      → IsPoint (node_program program lent box) point
  -- where that has no point, none is there
  pub empty : HasNoPoint (node_program program lent box) → HasNoImproving program held box
  -- what bounds it holds as a bound
  pub safe : (b : ℚ) → ShowsBound program lent box b → IsBoundIn program held box b
  -- what its optimum comes to holds as a bound, and is one of the linear program
  pub bound : (point : List ℚ) (b : ℚ) → ShowsLeast program lent box point b → IsBoundIn program held box b
  pub relaxed : (point : List ℚ) (b : ℚ)
      → ShowsLeast program lent box point b → IsRelaxedBound program (usable_rows box lent.pool) box (Some b)
  -- what is as good as a point's cost is one of the linear program once it is rounded up
  pub near : (point : List ℚ) (b : ℚ) → ShowsNear program lent box point b
      → IsRelaxedBound program (usable_rows box lent.pool) box (Some (integer (ceil b)))
  -- where its cost falls without end, any bound is
  pub falling : (point : List ℚ) (bound : Option ℚ)
      → ShowsFalling program lent box point → IsRelaxedBound program (usable_rows box lent.pool) box bound

abbrev pub AllNodeProgramsTell : Type 0
AllNodeProgramsTell =
    (program : Program) (held : Option ℚ) (lent : Lent) (box : List Sides)
    → lent.own ≡ program.rows → IsValidPool program held box lent.pool → NodeProgramsTell program held lent box
