use Rattle.std.proofs.Common.{◌≡◌, suc, ◌<◌, ◌≤◌, ◌-◌, ◌^◌, length}
use Rattle.cip_rational.specs.Range.{magnitude}
use Rattle.cip_dict.specs.Lists.{basic_in}
use Rattle.cip_dict.specs.SparseLines.{IsPlace}
use Rattle.cip_dict.specs.WholeLines.{over, number_on, wholes_of, put_number, AreBelow}
use Rattle.cip_dict.proofs.near_sums.sum_near.Given as goal

abbrev pub invariant-loop-step : goal.invariant-loop-step
invariant-loop-step l = record {
  within : l.step.k ≤ length l.pivot.standing.now;
  row_value : l.step.k < length l.pivot.standing.now → l.step.n ≡ number_on l.row l.step.k;
  new_value : l.step.k < length l.pivot.standing.now → l.step.y ≡ number_on l.new l.step.k;
  row_small : magnitude l.step.n < 2 ^ 42;
  new_small : magnitude l.step.y < 2 ^ 42;
  row_past : l.step.k < length l.pivot.standing.now → IsPlace (suc l.step.k) (over 1 l.row) l.step.here;
  new_past : l.step.k < length l.pivot.standing.now → IsPlace (suc l.step.k) (over 1 l.new) l.step.there;
  written : l.out.items ≡ wholes_of l.step.k (put_number (basic_in l.pivot.standing.now) l.pivot.leaving l.pivot.entering l.factors.own l.factors.new l.row l.new);
  positive : 0 < l.near.g;
  under : l.near.most < 2 ^ 42 → l.under < 2 ^ 42;
  small : l.near.most < 2 ^ 42 → AreBelow (2 ^ 42) l.out.items;
  near : AreBelow (2 ^ 63) l.out.items;
}

abbrev pub decreases-loop-step : goal.decreases-loop-step
decreases-loop-step l = length l.pivot.standing.now - l.step.k
