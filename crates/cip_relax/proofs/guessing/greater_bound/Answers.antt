use Rattle.std.proofs.lemmas.Grind.{common_steps}
use Rattle.std.proofs.Common.{arith}
use Rattle.cip_relax.proofs.guessing.greater_bound.Goals as goal

pub returns-after-is_at_most-clause-shows : goal.returns-after-is_at_most-clause-shows
returns-after-is_at_most-clause-shows c = grind (arith, common_steps)

pub returns-after-is_at_most-clause-greater : goal.returns-after-is_at_most-clause-greater
returns-after-is_at_most-clause-greater c = grind (arith, common_steps)

pub returns-in_default-None-clause-shows : goal.returns-in_default-None-clause-shows
returns-in_default-None-clause-shows c = grind (arith, common_steps)

pub returns-in_default-None-clause-greater : goal.returns-in_default-None-clause-greater
returns-in_default-None-clause-greater c = grind (arith, common_steps)

pub returns-in-None-default-clause-greater : goal.returns-in-None-default-clause-greater
returns-in-None-default-clause-greater c = grind (arith, common_steps)

pub returns-in-None-default-clause-shows : goal.returns-in-None-default-clause-shows
returns-in-None-default-clause-shows c = grind (arith, common_steps)
