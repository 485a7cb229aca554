use Rattle.std.proofs.lemmas.Grind.{common_steps}
use Rattle.std.proofs.Common.{arith}
use Rattle.cip_incumbent.proofs.incumbents.Incumbent.offer.Goals as goal

pub returns-in-Feasible-clause-after : goal.returns-in-Feasible-clause-after
returns-in-Feasible-clause-after c = grind (arith, common_steps)

pub returns-in-Feasible-clause-answer : goal.returns-in-Feasible-clause-answer
returns-in-Feasible-clause-answer c = grind (arith, common_steps)

pub returns-in-Feasible-clause-held : goal.returns-in-Feasible-clause-held
returns-in-Feasible-clause-held c = grind (arith, common_steps)

pub returns-in_default : goal.returns-in_default
returns-in_default c = grind (arith, common_steps)

pub offer_at-requires : goal.offer_at-requires
offer_at-requires c = grind (arith, common_steps)

pub check-requires : goal.check-requires
check-requires c = grind (arith, common_steps)
