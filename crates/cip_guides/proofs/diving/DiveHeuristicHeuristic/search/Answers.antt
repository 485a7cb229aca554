use Rattle.std.proofs.lemmas.Grind.{common_steps}
use Rattle.std.proofs.Common.{arith}
use Rattle.cip_guides.proofs.diving.DiveHeuristicHeuristic.search.Goals as goal

pub returns : goal.returns
returns c = grind (arith, common_steps)

pub returns-then-not-is_there : goal.returns-then-not-is_there
returns-then-not-is_there c = grind (arith, common_steps)
