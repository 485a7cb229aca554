-- Sides that cross: no value lies between them.
use Rattle.std.specs.Prelude.{ℕ, Bool, false, ◌||◌, List, [], ◌∷◌, slice_index_or}
use Rattle.cip_problem.specs.Program.{Sides, Row, no_row}
use Rattle.cip_lin.specs.MetSides.{is_past}
use Rattle.cip_master.specs.MasterTasks.{Task}

-- those of one of these columns do
abbrev pub crosses_column : List Sides → Bool
crosses_column [] = false
crosses_column (sides ∷ box) = is_past sides.low sides.high || crosses_column box

-- those of one of the rows with these numbers do
abbrev pub crosses_row : List Row → List ℕ → Bool
crosses_row rows [] = false
crosses_row rows (number ∷ numbers) =
    is_past (slice_index_or rows number no_row).low (slice_index_or rows number no_row).high || crosses_row rows numbers

-- those of a column in the box do, or those of a master row
abbrev pub has_crossed : Task → Bool
has_crossed task = crosses_column task.box || crosses_row task.program.rows task.kept.blocks.master_rows
