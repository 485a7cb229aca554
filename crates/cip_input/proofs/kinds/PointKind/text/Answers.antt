use Rattle.std.proofs.lemmas.Grind.{common_steps}
use Rattle.std.proofs.Common.{arith}
use Rattle.cip_input.proofs.kinds.PointKind.text.Goals as goal

pub returns-in_default-clause-text : goal.returns-in_default-clause-text
returns-in_default-clause-text c = grind (arith, common_steps)

pub returns-in-5-clause-text : goal.returns-in-5-clause-text
returns-in-5-clause-text c = grind (arith, common_steps)

pub returns-in-4-clause-text : goal.returns-in-4-clause-text
returns-in-4-clause-text c = grind (arith, common_steps)

pub returns-in-3-clause-text : goal.returns-in-3-clause-text
returns-in-3-clause-text c = grind (arith, common_steps)

pub returns-in-2-clause-text : goal.returns-in-2-clause-text
returns-in-2-clause-text c = grind (arith, common_steps)

pub returns-in-1-clause-text : goal.returns-in-1-clause-text
returns-in-1-clause-text c = grind (arith, common_steps)

pub returns-in_default-clause-short : goal.returns-in_default-clause-short
returns-in_default-clause-short c = grind (arith, common_steps)

pub returns-in-5-clause-short : goal.returns-in-5-clause-short
returns-in-5-clause-short c = grind (arith, common_steps)

pub returns-in-4-clause-short : goal.returns-in-4-clause-short
returns-in-4-clause-short c = grind (arith, common_steps)

pub returns-in-3-clause-short : goal.returns-in-3-clause-short
returns-in-3-clause-short c = grind (arith, common_steps)

pub returns-in-2-clause-short : goal.returns-in-2-clause-short
returns-in-2-clause-short c = grind (arith, common_steps)

pub returns-in-1-clause-short : goal.returns-in-1-clause-short
returns-in-1-clause-short c = grind (arith, common_steps)
