use Rattle.std.proofs.lemmas.Grind.{common_steps}
use Rattle.std.proofs.Common.{arith}
use Rattle.cip_presolve.proofs.candidates.add_forms.Goals as goal

pub returns : goal.returns
returns c = grind (arith, common_steps)

pub loop-number-init : goal.loop-number-init
loop-number-init c = grind (arith, common_steps)

pub returns-in_default : goal.returns-in_default
returns-in_default c = grind (arith, common_steps)

pub returns-then-not-equalities : goal.returns-then-not-equalities
returns-then-not-equalities c = grind (arith, common_steps)

pub loop-number-preserved : goal.loop-number-preserved
loop-number-preserved c = grind (arith, common_steps)

pub add_lone-added-requires-clause-inside : goal.add_lone-added-requires-clause-inside
add_lone-added-requires-clause-inside c = grind (arith, common_steps)

pub add_lone-requires-clause-inside : goal.add_lone-requires-clause-inside
add_lone-requires-clause-inside c = grind (arith, common_steps)

pub bounds-second-1 : goal.bounds-second-1
bounds-second-1 c = grind (arith, common_steps)

pub bounds-first-0 : goal.bounds-first-0
bounds-first-0 c = grind (arith, common_steps)

pub add_lone-requires-clause-may : goal.add_lone-requires-clause-may
add_lone-requires-clause-may c = grind (arith, common_steps)

pub row-requires : goal.row-requires
row-requires c = grind (arith, common_steps)

pub loop-number-preserved-in_default-terms : goal.loop-number-preserved-in_default-terms
loop-number-preserved-in_default-terms c = grind (arith, common_steps)
