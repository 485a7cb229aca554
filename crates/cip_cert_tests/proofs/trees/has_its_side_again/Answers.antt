use Rattle.cip_cert_tests.proofs.StillTaken.{still_taken, taken_there}
use Rattle.cip_cert_tests.proofs.trees.has_its_side_again.Goals as goal

pub is_node-requires-clause-taken : goal.is_node-requires-clause-taken
is_node-requires-clause-taken c =
    taken_there c.next-2.new.self c.tighten.new.tree c.in-Some-Some.low c.tighten.ensures.tree
    (still_taken c.next.new.self c.next-2.new.self c.in-Some-Some.low c.in-Some-Some.high c.in-Some-Some.ensures.taken c.in-Some-Some.ensures')
