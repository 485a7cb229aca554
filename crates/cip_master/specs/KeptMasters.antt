-- The master program that is kept: that of the points of a pool in a box.
use Rattle.std.specs.Prelude.{◌≡◌, ℕ, ◌<◌, ◌≤◌, Bool, true, List, [], ◌∷◌, ◌++◌, length, map, take, None, Some, Err, All, slice_index, slice_index_or, ⊤}
use Rattle.std.specs.List.{filter, AllZip, Contains}
use Rattle.cip_rational.specs.Rational.{zeroℚ}
use Rattle.cip_frac.specs.declared.operations.Wide.{Wide as Overflow}
use Rattle.cip_frac.specs.Outcomes.{dot_from}
use Rattle.cip_problem.specs.Program.{Sides, Row, Program, no_row}
use Rattle.cip_problem.specs.Activity.{StandsBelow}
use Rattle.cip_problem.specs.LinearProgram.{LinearProgram}
use Rattle.cip_pricing.specs.Decomposition.{Owner, picked, IsBlockPoint, master_rows}
use Rattle.cip_pricing.specs.MasterForms.{master_form, master_box}
use Rattle.cip_pricing.specs.MasterPrograms.{IsMasterRow, AreSumRows}
use Rattle.cip_columns.specs.PoolPoints.{PoolPoint, held_of}
use Rattle.cip_columns.specs.ColumnPools.{is_inside}
use Rattle.cip_lagrange.specs.Decompositions.{owners_in}
use Rattle.cip_lagrange.specs.declared.parts.Decomposed.{Decomposed}
use Rattle.cip_master.specs.BlockSums.{coefficient_in}
use Rattle.cip_master.specs.declared.masters.MasterProgram.{MasterProgram}
use Rattle.cip_master.specs.declared.masters.MasterFault.{MasterFault}
use Rattle.cip_master.specs.declared.masters.MasterFault.TheVariants.{Wide, NoMemory}

-- a point lies in its block's part of a box
abbrev pub is_held_in : List Owner → List Sides → PoolPoint → Bool
is_held_in owners box held = is_inside (picked (Some held.block) owners box) held.point

-- the points of a pool that do, by rising id
abbrev pub held_in : List Owner → List Sides → List PoolPoint → List PoolPoint
held_in owners box points = filter (is_held_in owners box) points

-- each point of a pool is one of a block in the program's own sides
abbrev pub ArePoolPoints : Program → Decomposed → List PoolPoint → Type 0
ArePoolPoints program kept points =
    All (λ (held : PoolPoint). (held.block < length kept.subproblems.items)
    × IsBlockPoint program (owners_in kept) program.bounds held.block held.point) points

-- the linear program that is kept: the master rows, and behind them a row for each block
abbrev pub program_in : MasterProgram → LinearProgram
program_in master = record {
  rows = master.masters.items ++ master.sums.items;
  bounds = master.bounds;
  costs = master.costs.items;
}

-- it is the master program of these points, and their ids are kept; its rows stand on its columns
pub record IsMasterOf (program : Program) (kept : Decomposed) (box : List Sides) (points : List PoolPoint)
    (master : MasterProgram) : Type 0 where
  pub masters : AllZip
      (IsMasterRow (length kept.column_owners.items) kept.column_owners.items (map held_of points))
      (master_rows program (owners_in kept)) master.masters.items
  pub count : length master.sums.items ≡ length kept.subproblems.items
  pub sums : AreSumRows (length (picked None kept.column_owners.items box)) 0 (map held_of points) master.sums.items
  pub bounds : master.bounds ≡ master_box kept.column_owners.items box (map held_of points)
  pub costs : master.costs.items ≡ master_form kept.column_owners.items program.costs (map held_of points)
  pub ids : master.ids.items ≡ map (λ (h : PoolPoint). h.id) points
  pub master_terms : All (λ row. StandsBelow (length master.bounds) row.terms) master.masters.items
  pub sum_terms : All (λ row. StandsBelow (length master.bounds) row.terms) master.sums.items

-- it is that of those in the box among the first points of a pool, as many as were looked at
pub record HasSeen (program : Program) (kept : Decomposed) (box : List Sides) (points : List PoolPoint)
    (master : MasterProgram) : Type 0 where
  pub seen : master.seen ≤ length points
  pub is_master : IsMasterOf program kept box (held_in kept.column_owners.items box (take master.seen points)) master

-- ---- coefficients out of range

-- a master row, by its place among them
abbrev pub master_row_at : Program → Decomposed → ℕ → Row
master_row_at program kept at = slice_index_or program.rows (slice_index kept.blocks.master_rows at) no_row

-- a coefficient of a point is out of range: its cost, or what it comes to in a master row
pub data IsWidePoint (program : Program) (kept : Decomposed) (held : PoolPoint) : Type 0 where
  Wide_cost : (wide : Overflow)
      → dot_from zeroℚ (picked (Some held.block) kept.column_owners.items program.costs) held.point ≡ Err wide
      → IsWidePoint program kept held
  Wide_row : (wide : Overflow) (at : ℕ) → at < length kept.blocks.master_rows
      → coefficient_in kept held (master_row_at program kept at).terms ≡ Err wide
      → IsWidePoint program kept held

-- why a point isn't taken: a coefficient of it is out of range; of want of memory nothing is said
abbrev pub IsPointFault : Program → Decomposed → PoolPoint → MasterFault → Type 0
IsPointFault program kept held Wide = IsWidePoint program kept held
IsPointFault program kept held NoMemory = ⊤

-- why the points of a pool aren't taken: so it is with one of them that lies in the box
abbrev pub IsPoolFault : Program → Decomposed → List Sides → List PoolPoint → MasterFault → Type 0
IsPoolFault program kept box points Wide =
    (held : PoolPoint) × Contains (held_in kept.column_owners.items box points) held × IsWidePoint program kept held
IsPoolFault program kept box points NoMemory = ⊤

-- ---- one point more

-- what was the master program of some points in some box is now that of these and one more
abbrev pub PutsPoint : Program → Decomposed → PoolPoint → MasterProgram → MasterProgram → Type 0
PutsPoint program kept held before after =
    (box : List Sides) (points : List PoolPoint) → length box ≡ length kept.column_owners.items
    → IsMasterOf program kept box points before → IsMasterOf program kept box (points ++ held ∷ []) after

-- what was that of the points of a list that lie in a box is now that of those of the list with one point more
abbrev pub TakesPoint : Program → Decomposed → List Sides → PoolPoint → MasterProgram → MasterProgram → Type 0
TakesPoint program kept box held before after =
    (points : List PoolPoint)
    → IsMasterOf program kept box (held_in kept.column_owners.items box points) before
    → IsMasterOf program kept box (held_in kept.column_owners.items box (points ++ held ∷ [])) after

-- why it isn't: the point lies in the box, and isn't taken
abbrev pub IsTakenFault : Program → Decomposed → List Sides → PoolPoint → MasterFault → Type 0
IsTakenFault program kept box held fault =
    (is_held_in kept.column_owners.items box held ≡ true) × IsPointFault program kept held fault
