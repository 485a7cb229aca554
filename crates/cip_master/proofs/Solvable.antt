-- The linear program that is kept can be solved.
use Rattle.std.proofs.Common.{◌≡◌, ◌+◌, ◌≤◌, List, ◌++◌, length, map, take, None, sym, ap, ◌∙◌, subst, arith}
use Rattle.std.specs.Prelude.{is_none}
use Rattle.std.proofs.lemmas.List.{length-append, length-map, take_all}
use Rattle.std.proofs.lemmas.List.Elements.{All-append}
use Rattle.cip_problem.specs.Program.{Sides, Row}
use Rattle.cip_problem.specs.Activity.{StandsBelow}
use Rattle.cip_problem.specs.WellFormed.{IsWellFormed}
use Rattle.cip_problem.specs.BlockParts.{Blocks, rows_where}
use Rattle.cip_pricing.specs.Decomposition.{Owner, picked}
use Rattle.cip_pricing.specs.Mixtures.{Held}
use Rattle.cip_pricing.specs.MasterForms.{weight_sides}
use Rattle.cip_pricing.proofs.Picked.{length_picked}
use Rattle.cip_columns.specs.PoolPoints.{PoolPoint, held_of}
use Rattle.cip_columns.specs.ColumnPools.{most_points}
use Rattle.cip_lagrange.proofs.Numbered.{few_numbers}
use Rattle.cip_simplex.specs.LpShape.{IsSolvable}
use Rattle.cip_master.specs.KeptMasters.{held_in, program_in, IsMasterOf}
use Rattle.cip_master.specs.declared.masters.MasterProgram.{MasterProgram}
use Rattle.cip_master.proofs.OnePointMore.{masters_long, most_columns_kept}
use Rattle.cip_master.proofs.Weighed.{form_long}
use Rattle.cip_master.specs.MasterTasks.{Task, IsTask}
use Rattle.cip_master.specs.MasterSolving.{IsKept, IsWhole}

-- where all points were looked at, what is kept is the whole master program
pub whole : (task : Task) (master : MasterProgram) → IsKept task master → master.seen ≡ length task.points
    → IsWhole task master
whole task master h e =
    subst (λ (points : List PoolPoint). IsMasterOf task.program task.kept task.box
    (held_in task.kept.column_owners.items task.box points) master)
    (ap (λ n. take n task.points) e ∙ take_all (length task.points) task.points (omega arith)) h.is_master

-- how many columns the master program of held points has
pub bounds_long : (owners : List Owner) (box : List Sides) (held : List Held)
    → length (picked None owners box ++ map (λ (h : Held). weight_sides) held)
    ≡ length (picked None owners box) + length held
bounds_long owners box held =
    length-append (picked None owners box) (map (λ (h : Held). weight_sides) held)
    ∙ ap (λ n. length (picked None owners box) + n) (length-map held (λ (h : Held). weight_sides))

few_masters : (task : Task) → IsWellFormed task.program → IsTask task
    → length task.kept.blocks.master_rows ≤ 65536
few_masters task well ok =
    let few : length (rows_where is_none 0 task.kept.row_owners.items) ≤ length task.kept.row_owners.items =
    few_numbers is_none 0 task.kept.row_owners.items in
    omega (
      arith,
      few,
      ap (λ (b : Blocks). length b.master_rows) ok.made.numbers,
      ok.made.each_row,
      well.few_rows,
    )

pub solvable : (task : Task) (master : MasterProgram) → IsWellFormed task.program → IsTask task
    → length task.points ≤ most_points → IsKept task master → IsSolvable (program_in master)
solvable task master well ok few h =
    let owners : List Owner = task.kept.column_owners.items in
    let points : List PoolPoint = held_in owners task.box (take master.seen task.points) in
    let held : List Held = map held_of points in
    let m : IsMasterOf task.program task.kept task.box points master = h.is_master in
    let same : length task.program.costs ≡ length task.box = sym ok.box_ in
    let columns_few : length master.bounds ≤ 131072 =
    most_columns_kept task.program task.kept task.box task.points master well ok.made few h in
    let rows_few : length task.kept.blocks.master_rows ≤ 65536 = few_masters task well ok in
    record {
      proper = record {
        costs =
            ap length m.costs ∙ form_long owners task.program.costs held
            ∙ ap (λ n. n + length held) (length_picked None owners task.program.costs task.box same)
            ∙ sym (ap length m.bounds ∙ bounds_long owners task.box held);
        rows =
            All-append (λ (row : Row). StandsBelow (length master.bounds) row.terms) master.masters.items
            master.sums.items m.master_terms m.sum_terms;
      };
      few = omega (
        arith,
        columns_few,
        rows_few,
        length-append master.masters.items master.sums.items,
        masters_long task.program task.kept task.box points master ok.made m,
        m.count,
        ok.made.few,
      );
    }
