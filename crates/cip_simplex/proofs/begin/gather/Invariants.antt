use Rattle.std.proofs.Common.{◌≡◌, ℕ, ◌<◌, map, take}
use Rattle.cip_problem.specs.Multipliers.{row_sides}
use Rattle.cip_problem.specs.RowTerms.{AreTerms}
use Rattle.cip_bland.specs.Tables.{each}
use Rattle.cip_bland.specs.ProgramState.{terms_at}
use Rattle.cip_simplex.specs.LpEntries.{row_entries}
use Rattle.cip_simplex.proofs.begin.gather.Given as goal

abbrev pub invariant-loop-r : goal.invariant-loop-r
invariant-loop-r l = record {
  entries : l.entries.items ≡ each l.r (row_entries l.lp.rows);
  valid : (k : ℕ) → k < l.r → AreTerms (terms_at l.lp.rows k);
  sides : l.sides.items ≡ map row_sides (take l.r l.lp.rows);
}
