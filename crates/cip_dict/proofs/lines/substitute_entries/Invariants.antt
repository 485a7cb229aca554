use Rattle.std.proofs.Common.{◌≡◌, ◌≤◌, ◌-◌, None, length}
use Rattle.cip_bland.specs.Tables.{each}
use Rattle.cip_bland.specs.Operations.{first_overflow}
use Rattle.cip_bland.specs.Exchange.{substituted}
use Rattle.cip_bland.specs.MoveOperations.{substituted_operations}
use Rattle.cip_dict.specs.Lists.{basic_in}
use Rattle.cip_dict.specs.SparseLines.{entry_on, kept_of, IsPlace}
use Rattle.cip_dict.proofs.lines.substitute_entries.Given as goal

abbrev pub invariant-loop-k : goal.invariant-loop-k
invariant-loop-k l = record {
  within : l.k ≤ length l.pivot.standing.now;
  row_place : IsPlace l.k l.row l.here;
  new_place : IsPlace l.k l.new l.there;
  fits : first_overflow (each l.k (substituted_operations l.line (basic_in l.pivot.standing.now) l.pivot.leaving l.pivot.entering l.pivot.inverse (entry_on l.new) (entry_on l.row))) ≡ None;
  written : l.out.items ≡ kept_of l.k (substituted (basic_in l.pivot.standing.now) l.pivot.leaving l.pivot.entering l.pivot.inverse (entry_on l.new) (entry_on l.row));
}

abbrev pub decreases-loop-k : goal.decreases-loop-k
decreases-loop-k l = length l.pivot.standing.now - l.k
