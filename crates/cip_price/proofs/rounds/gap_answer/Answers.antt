use Rattle.std.proofs.lemmas.Grind.{common_steps}
use Rattle.std.proofs.Common.{arith}
use Rattle.cip_price.proofs.rounds.gap_answer.Goals as goal

pub returns-in-Same : goal.returns-in-Same
returns-in-Same c = grind (arith, common_steps)

pub returns-in-Full : goal.returns-in-Full
returns-in-Full c = grind (arith, common_steps)

pub returns-in-Grown : goal.returns-in-Grown
returns-in-Grown c = grind (arith, common_steps)
