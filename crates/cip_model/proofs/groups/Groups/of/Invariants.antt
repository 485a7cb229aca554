use Rattle.std.proofs.Common.{◌≡◌, take}
use Rattle.std.specs.Prelude.{is_none}
use Rattle.cip_problem.specs.BlockParts.{rows_where, grouped}
use Rattle.cip_model.specs.NumberLists.{lists_of}
use Rattle.cip_model.proofs.groups.Groups.of.Given as goal

abbrev pub invariant-loop-number : goal.invariant-loop-number
invariant-loop-number l = record {
  groups : lists_of l.groups.items ≡ grouped l.count (take l.number l.owners);
  rest : l.rest.items ≡ rows_where is_none 0 (take l.number l.owners);
}
