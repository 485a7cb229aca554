use Rattle.std.proofs.lemmas.Grind.{common_steps}
use Rattle.std.proofs.Common.{arith}
use Rattle.cip_input.proofs.refusals.FaultyText.kind.Goals as goal

pub returns-in-Point-clause-text : goal.returns-in-Point-clause-text
returns-in-Point-clause-text c = grind (arith, common_steps)

pub returns-in-Blocks-clause-text : goal.returns-in-Blocks-clause-text
returns-in-Blocks-clause-text c = grind (arith, common_steps)

pub returns-in-Model-clause-text : goal.returns-in-Model-clause-text
returns-in-Model-clause-text c = grind (arith, common_steps)

pub returns-in-Point-clause-short : goal.returns-in-Point-clause-short
returns-in-Point-clause-short c = grind (arith, common_steps)

pub returns-in-Blocks-clause-short : goal.returns-in-Blocks-clause-short
returns-in-Blocks-clause-short c = grind (arith, common_steps)

pub returns-in-Model-clause-short : goal.returns-in-Model-clause-short
returns-in-Model-clause-short c = grind (arith, common_steps)
