use Rattle.std.proofs.Common.{◌≡◌, take}
use Rattle.cip_problem.specs.Choices.{made_on}
use Rattle.cip_node.proofs.leaves.choices_made.Given as goal

abbrev pub invariant-loop-at : goal.invariant-loop-at
invariant-loop-at l = l.on.items ≡ made_on (take l.at l.own) l.now
