use Rattle.std.proofs.Common.{◌≡◌, ◌++◌, ◌≤◌, drop}
use Rattle.cip_problem.specs.Choices.{decided_box}
use Rattle.cip_leaf.proofs.lists.decided_sides.Given as goal

abbrev pub invariant-loop-column : goal.invariant-loop-column
invariant-loop-column l = record {
  rest : l.decided ++ decided_box (drop l.column l.fn.choices) (drop l.column l.fn.bounds) (drop l.taken l.on) ≡ decided_box l.fn.choices l.fn.bounds l.on;
  few : l.taken ≤ l.column;
}
