use Rattle.std.proofs.Common.{◌≡◌, ◌++◌, None}
use Rattle.cip_bland.specs.Tables.{table, each}
use Rattle.cip_bland.specs.Operations.{first_overflow}
use Rattle.cip_dict.specs.FirstLists.{row_form, row_operations}
use Rattle.cip_dict.proofs.first.rows_and_cost.Given as goal

abbrev pub invariant-loop-r : goal.invariant-loop-r
invariant-loop-r l = record {
  fits : first_overflow (each l.r (row_operations l.columns l.rows l.at)) ≡ None;
  so_far : l.values.items ≡ l.initial.values.items ++ table l.r (row_form l.columns l.rows l.at);
}
