use Rattle.std.proofs.Common.{sym, subst}
use Rattle.cip_tree.specs.Nodes.{Nodes, IsTaken}
use Rattle.cip_cert_tests.proofs.StillTaken.{still_taken, taken_there}
use Rattle.cip_cert_tests.proofs.trees.are_entered.Goals as goal
use Rattle.cip_cert_tests.proofs.trees.are_entered.Goals.{then-is_node, else-is_node}

pub is_node-requires-then-is_node-2-clause-taken : goal.is_node-requires-then-is_node-2-clause-taken
is_node-requires-then-is_node-2-clause-taken c =
    let two = c.in-Some-Some.two in
    let there = taken_there c.next-2.new.self c.is_node.new.tree two c.is_node.ensures
    (still_taken c.next.new.self c.next-2.new.self two c.in-Some-Some.three c.in-Some-Some.ensures.taken c.in-Some-Some.ensures') in
    elim c.if-is_node.branch [
      | then-is_node w ↦ subst (λ (n : Nodes). IsTaken n two) (sym w.tree-is) (taken_there c.is_node.new.tree w.is_node-then-is_node.new.tree two w.is_node-then-is_node.ensures there)
      | else-is_node w ↦ subst (λ (n : Nodes). IsTaken n two) (sym w.tree-is) there
    ]
