use Rattle.std.proofs.Common.{◌≡◌, ◌-◌, ◌≤◌, [], vec_len}
use Rattle.std.specs.Prelude.{replicate}
use Rattle.cip_model.specs.NumberLists.{lists_of}
use Rattle.cip_model.proofs.groups.empty_groups.Given as goal

abbrev pub invariant-loop-alloc : goal.invariant-loop-alloc
invariant-loop-alloc l = record {
  empty : lists_of l.groups.items ≡ replicate (vec_len l.groups) [];
  few : vec_len l.groups ≤ l.count;
}

abbrev pub decreases-loop-alloc : goal.decreases-loop-alloc
decreases-loop-alloc l = l.count - vec_len l.groups
