use Rattle.std.proofs.lemmas.Grind.{common_steps}
use Rattle.std.proofs.Common.{arith}
use Rattle.cip_input.proofs.model_kinds.ModelKind.text.Goals as goal

pub returns-in-Mps-clause-text : goal.returns-in-Mps-clause-text
returns-in-Mps-clause-text c = grind (arith, common_steps)

pub returns-in-Lp-clause-text : goal.returns-in-Lp-clause-text
returns-in-Lp-clause-text c = grind (arith, common_steps)

pub returns-in-Lp-clause-short : goal.returns-in-Lp-clause-short
returns-in-Lp-clause-short c = grind (arith, common_steps)

pub returns-in-Mps-clause-short : goal.returns-in-Mps-clause-short
returns-in-Mps-clause-short c = grind (arith, common_steps)
