use Rattle.std.proofs.lemmas.Grind.{common_steps}
use Rattle.std.proofs.Common.{arith}
use Rattle.cip_guides.proofs.rounding.RoundHeuristicHeuristic.search.Goals as goal

pub returns-then-not-may_be_cheaper : goal.returns-then-not-may_be_cheaper
returns-then-not-may_be_cheaper c = grind (arith, common_steps)

pub returns-in_default : goal.returns-in_default
returns-in_default c = grind (arith, common_steps)

pub returns-else-not-may_be_cheaper : goal.returns-else-not-may_be_cheaper
returns-else-not-may_be_cheaper c = grind (arith, common_steps)
