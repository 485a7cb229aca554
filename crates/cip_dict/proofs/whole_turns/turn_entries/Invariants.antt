use Rattle.std.proofs.Common.{◌≡◌, suc, ◌<◌, ◌≤◌, ◌-◌, ◌^◌, length}
use Rattle.cip_rational.specs.Range.{magnitude}
use Rattle.cip_dict.specs.Lists.{basic_in}
use Rattle.cip_dict.specs.SparseLines.{IsPlace}
use Rattle.cip_dict.specs.WholeLines.{over, number_on, wholes_of, turned_number, AreBelow}
use Rattle.cip_dict.proofs.whole_turns.turn_entries.Given as goal

abbrev pub invariant-loop-step : goal.invariant-loop-step
invariant-loop-step l = record {
  within : l.step.k ≤ length l.pivot.standing.now;
  row_value : l.step.k < length l.pivot.standing.now → l.step.n ≡ number_on l.row l.step.k;
  row_small : magnitude l.step.n < 2 ^ 42;
  row_past : l.step.k < length l.pivot.standing.now → IsPlace (suc l.step.k) (over 1 l.row) l.step.here;
  leaving_past : l.step.k < length l.pivot.standing.now → IsPlace (suc l.step.k) (over 1 l.leaving) l.step.there;
  written : l.out.items ≡ wholes_of l.step.k (turned_number (basic_in l.pivot.standing.now) l.pivot.leaving l.pivot.entering l.positive l.d l.row);
  small : AreBelow (2 ^ 42) l.out.items;
}

abbrev pub decreases-loop-step : goal.decreases-loop-step
decreases-loop-step l = length l.pivot.standing.now - l.step.k
