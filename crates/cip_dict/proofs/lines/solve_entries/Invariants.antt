use Rattle.std.proofs.Common.{◌≡◌, ◌≤◌, ◌-◌, None, length}
use Rattle.cip_bland.specs.Tables.{each}
use Rattle.cip_bland.specs.Operations.{first_overflow}
use Rattle.cip_bland.specs.Exchange.{solved}
use Rattle.cip_bland.specs.MoveOperations.{solved_operations}
use Rattle.cip_bland.specs.declared.places.Line.TheVariants.{Row}
use Rattle.cip_dict.specs.Lists.{basic_in}
use Rattle.cip_dict.specs.SparseLines.{entry_on, kept_of, IsPlace}
use Rattle.cip_dict.proofs.lines.solve_entries.Given as goal

abbrev pub invariant-loop-k : goal.invariant-loop-k
invariant-loop-k l = record {
  within : l.k ≤ length l.pivot.standing.now;
  row_place : IsPlace l.k l.row l.here;
  leaving_place : IsPlace l.k l.leaving l.there;
  fits : first_overflow (each l.k (solved_operations (Row l.pivot.entering) (basic_in l.pivot.standing.now) l.pivot.leaving l.pivot.entering l.pivot.inverse (entry_on l.row))) ≡ None;
  written : l.out.items ≡ kept_of l.k (solved (basic_in l.pivot.standing.now) l.pivot.leaving l.pivot.entering l.pivot.inverse (entry_on l.row));
}

abbrev pub decreases-loop-k : goal.decreases-loop-k
decreases-loop-k l = length l.pivot.standing.now - l.k
