-- The linear program of a node can be solved.
use Rattle.std.proofs.Common.{◌≡◌, ◌≤◌, List, ◌++◌, length, All, sym, ap, subst, arith, length-append}
use Rattle.std.proofs.lemmas.List.{length-map}
use Rattle.std.proofs.lemmas.List.Elements.{All-append}
use Rattle.std.proofs.lemmas.List.Sums.{length-filter, count_by-le-length}
use Rattle.cip_problem.specs.Program.{Sides, Row, Program}
use Rattle.cip_problem.specs.WellFormed.{IsWellFormed, columns}
use Rattle.cip_problem.specs.Activity.{StandsBelow}
use Rattle.cip_problem.specs.Box.{box_inside}
use Rattle.cip_cert.specs.declared.rows.PoolRow.{PoolRow}
use Rattle.cip_cert.specs.Lent.{KeptFits}
use Rattle.cip_rows.specs.RowPools.{Pool, IsSoundPool, usable_in}
use Rattle.cip_simplex.specs.LpShape.{IsSolvable}
use Rattle.cip_basis.proofs.Points.{usable_stand}
use Rattle.cip_relax.specs.NodeRows.{usable_rows}

few_usable : (box : List Sides) (rows : List PoolRow) → length (usable_rows box rows) ≤ length rows
few_usable box rows = omega (
  arith,
  length-map (usable_in box rows) (λ (kept : PoolRow). kept.row),
  length-filter (λ (kept : PoolRow). box_inside box kept.scope) rows,
  count_by-le-length (λ (kept : PoolRow). box_inside box kept.scope) rows,
)

pub solvable : (program : Program) (box : List Sides) (pool : Pool) (rows : List Row) → IsWellFormed program → length box ≡ columns program → length box ≡ pool.columns → IsSoundPool pool → rows ≡ program.rows ++ usable_rows box pool.rows → IsSolvable (record { rows = rows; bounds = box; costs = program.costs })
solvable program box pool rows formed long wide kept e = record {
  proper = record {
    costs = sym long;
    rows =
        subst (All (λ (row : Row). StandsBelow (length box) row.terms)) (sym e)
        (All-append (λ (row : Row). StandsBelow (length box) row.terms) program.rows (usable_rows box pool.rows)
        (subst (λ n. All (λ (row : Row). StandsBelow n row.terms) program.rows) (sym long) formed.rows)
        (usable_stand box (length box) pool.rows (subst (λ n. All (KeptFits n) pool.rows) (sym wide) kept.fits)));
  };
  few = omega (
    arith,
    long,
    formed.few_columns,
    formed.few_rows,
    kept.few,
    ap length e,
    length-append program.rows (usable_rows box pool.rows),
    few_usable box pool.rows,
  );
}
