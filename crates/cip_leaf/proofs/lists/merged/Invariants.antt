use Rattle.std.proofs.Common.{◌≡◌, ◌++◌, ◌≤◌, drop, length}
use Rattle.cip_search.specs.LeafProgram as program
use Rattle.cip_leaf.proofs.lists.merged.Given as goal

abbrev pub invariant-loop-at : goal.invariant-loop-at
invariant-loop-at l = record {
  rest : l.point.items ++ program.merged (drop l.at l.whole) (drop l.taken l.leaf) (drop l.put l.others) ≡ program.merged l.whole l.leaf l.others;
  count : length l.point.items ≡ l.at;
  few_taken : l.taken ≤ l.at;
  few_put : l.put ≤ l.at;
}
