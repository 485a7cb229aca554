use Rattle.std.proofs.lemmas.Grind.{common_steps}
use Rattle.std.proofs.Common.{arith}
use Rattle.cip_roster.proofs.single.word_for.Goals as goal

pub returns-in-OnEvent : goal.returns-in-OnEvent
returns-in-OnEvent c = grind (arith, common_steps)

pub returns-in-Price : goal.returns-in-Price
returns-in-Price c = grind (arith, common_steps)

pub returns-in-Enforce : goal.returns-in-Enforce
returns-in-Enforce c = grind (arith, common_steps)

pub returns-in-Branch : goal.returns-in-Branch
returns-in-Branch c = grind (arith, common_steps)

pub returns-in-Search : goal.returns-in-Search
returns-in-Search c = grind (arith, common_steps)

pub returns-in-Propagate : goal.returns-in-Propagate
returns-in-Propagate c = grind (arith, common_steps)

pub returns-in-Separate : goal.returns-in-Separate
returns-in-Separate c = grind (arith, common_steps)
