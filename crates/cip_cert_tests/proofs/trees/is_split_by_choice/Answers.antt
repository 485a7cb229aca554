use Rattle.cip_cert_tests.proofs.StillTaken.{taken_there}
use Rattle.cip_cert_tests.proofs.trees.is_split_by_choice.Goals as goal

pub has_made-requires-then-has_made-clause-taken : goal.has_made-requires-then-has_made-clause-taken
has_made-requires-then-has_made-clause-taken c =
    taken_there c.next-3.new.self c.has_made.new.tree c.in-Some-Some.high c.has_made.ensures c.in-Some-Some.ensures'.taken
