use Rattle.std.proofs.Common.{◌≡◌, ℕ, ◌<◌}
use Rattle.cip_problem.specs.RowTerms.{AreTerms}
use Rattle.cip_bland.specs.Tables.{each}
use Rattle.cip_bland.specs.ProgramState.{terms_at}
use Rattle.cip_simplex.specs.LpEntries.{row_entries}
use Rattle.cip_leaf.proofs.first_values.entries_of.Given as goal

abbrev pub invariant-loop-r : goal.invariant-loop-r
invariant-loop-r l = record {
  entries : l.entries.items ≡ each l.r (row_entries l.rows);
  valid : (k : ℕ) → k < l.r → AreTerms (terms_at l.rows k);
}
