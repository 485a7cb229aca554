use Rattle.std.proofs.lemmas.Grind.{common_steps}
use Rattle.std.proofs.Common.{arith}
use Rattle.cip_price.proofs.offering.is_full.Goals as goal

pub returns-in-Grown-clause-going : goal.returns-in-Grown-clause-going
returns-in-Grown-clause-going c = grind (arith, common_steps)

pub returns-in-Same-clause-going : goal.returns-in-Same-clause-going
returns-in-Same-clause-going c = grind (arith, common_steps)

pub returns-in-Grown-clause-full : goal.returns-in-Grown-clause-full
returns-in-Grown-clause-full c = grind (arith, common_steps)

pub returns-in-Same-clause-full : goal.returns-in-Same-clause-full
returns-in-Same-clause-full c = grind (arith, common_steps)

pub returns-in-Full-clause-full : goal.returns-in-Full-clause-full
returns-in-Full-clause-full c = grind (arith, common_steps)

pub returns-in-Full-clause-going : goal.returns-in-Full-clause-going
returns-in-Full-clause-going c = grind (arith, common_steps)
