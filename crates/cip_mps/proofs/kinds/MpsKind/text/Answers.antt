use Rattle.std.proofs.lemmas.Grind.{common_steps}
use Rattle.std.proofs.Common.{arith}
use Rattle.cip_mps.proofs.kinds.MpsKind.text.Goals as goal

pub returns-in_default-clause-text : goal.returns-in_default-clause-text
returns-in_default-clause-text c = grind (arith, common_steps)

pub returns-in-20-clause-text : goal.returns-in-20-clause-text
returns-in-20-clause-text c = grind (arith, common_steps)

pub returns-in-19-clause-text : goal.returns-in-19-clause-text
returns-in-19-clause-text c = grind (arith, common_steps)

pub returns-in-18-clause-text : goal.returns-in-18-clause-text
returns-in-18-clause-text c = grind (arith, common_steps)

pub returns-in-17-clause-text : goal.returns-in-17-clause-text
returns-in-17-clause-text c = grind (arith, common_steps)

pub returns-in-16-clause-text : goal.returns-in-16-clause-text
returns-in-16-clause-text c = grind (arith, common_steps)

pub returns-in-15-clause-text : goal.returns-in-15-clause-text
returns-in-15-clause-text c = grind (arith, common_steps)

pub returns-in-14-clause-text : goal.returns-in-14-clause-text
returns-in-14-clause-text c = grind (arith, common_steps)

pub returns-in-13-clause-text : goal.returns-in-13-clause-text
returns-in-13-clause-text c = grind (arith, common_steps)

pub returns-in-12-clause-text : goal.returns-in-12-clause-text
returns-in-12-clause-text c = grind (arith, common_steps)

pub returns-in-11-clause-text : goal.returns-in-11-clause-text
returns-in-11-clause-text c = grind (arith, common_steps)

pub returns-in-10-clause-text : goal.returns-in-10-clause-text
returns-in-10-clause-text c = grind (arith, common_steps)

pub returns-in-9-clause-text : goal.returns-in-9-clause-text
returns-in-9-clause-text c = grind (arith, common_steps)

pub returns-in-8-clause-text : goal.returns-in-8-clause-text
returns-in-8-clause-text c = grind (arith, common_steps)

pub returns-in-7-clause-text : goal.returns-in-7-clause-text
returns-in-7-clause-text c = grind (arith, common_steps)

pub returns-in-6-clause-text : goal.returns-in-6-clause-text
returns-in-6-clause-text c = grind (arith, common_steps)

pub returns-in-5-clause-text : goal.returns-in-5-clause-text
returns-in-5-clause-text c = grind (arith, common_steps)

pub returns-in_default-clause-short : goal.returns-in_default-clause-short
returns-in_default-clause-short c = grind (arith, common_steps)

pub returns-in-4-clause-text : goal.returns-in-4-clause-text
returns-in-4-clause-text c = grind (arith, common_steps)

pub returns-in-20-clause-short : goal.returns-in-20-clause-short
returns-in-20-clause-short c = grind (arith, common_steps)

pub returns-in-3-clause-text : goal.returns-in-3-clause-text
returns-in-3-clause-text c = grind (arith, common_steps)

pub returns-in-2-clause-text : goal.returns-in-2-clause-text
returns-in-2-clause-text c = grind (arith, common_steps)

pub returns-in-19-clause-short : goal.returns-in-19-clause-short
returns-in-19-clause-short c = grind (arith, common_steps)

pub returns-in-1-clause-text : goal.returns-in-1-clause-text
returns-in-1-clause-text c = grind (arith, common_steps)

pub returns-in-18-clause-short : goal.returns-in-18-clause-short
returns-in-18-clause-short c = grind (arith, common_steps)

pub returns-in-17-clause-short : goal.returns-in-17-clause-short
returns-in-17-clause-short c = grind (arith, common_steps)

pub returns-in-16-clause-short : goal.returns-in-16-clause-short
returns-in-16-clause-short c = grind (arith, common_steps)

pub returns-in-15-clause-short : goal.returns-in-15-clause-short
returns-in-15-clause-short c = grind (arith, common_steps)

pub returns-in-14-clause-short : goal.returns-in-14-clause-short
returns-in-14-clause-short c = grind (arith, common_steps)

pub returns-in-13-clause-short : goal.returns-in-13-clause-short
returns-in-13-clause-short c = grind (arith, common_steps)

pub returns-in-12-clause-short : goal.returns-in-12-clause-short
returns-in-12-clause-short c = grind (arith, common_steps)

pub returns-in-11-clause-short : goal.returns-in-11-clause-short
returns-in-11-clause-short c = grind (arith, common_steps)

pub returns-in-10-clause-short : goal.returns-in-10-clause-short
returns-in-10-clause-short c = grind (arith, common_steps)

pub returns-in-9-clause-short : goal.returns-in-9-clause-short
returns-in-9-clause-short c = grind (arith, common_steps)

pub returns-in-8-clause-short : goal.returns-in-8-clause-short
returns-in-8-clause-short c = grind (arith, common_steps)

pub returns-in-7-clause-short : goal.returns-in-7-clause-short
returns-in-7-clause-short c = grind (arith, common_steps)

pub returns-in-6-clause-short : goal.returns-in-6-clause-short
returns-in-6-clause-short c = grind (arith, common_steps)

pub returns-in-5-clause-short : goal.returns-in-5-clause-short
returns-in-5-clause-short c = grind (arith, common_steps)

pub returns-in-4-clause-short : goal.returns-in-4-clause-short
returns-in-4-clause-short c = grind (arith, common_steps)

pub returns-in-3-clause-short : goal.returns-in-3-clause-short
returns-in-3-clause-short c = grind (arith, common_steps)

pub returns-in-2-clause-short : goal.returns-in-2-clause-short
returns-in-2-clause-short c = grind (arith, common_steps)

pub returns-in-1-clause-short : goal.returns-in-1-clause-short
returns-in-1-clause-short c = grind (arith, common_steps)
