use Rattle.std.proofs.lemmas.Grind.{common_steps}
use Rattle.std.proofs.Common.{arith}
use Rattle.cip_leaf.proofs.rows.left_of_row.Goals as goal

pub activity-requires : goal.activity-requires
activity-requires c = omega arith

pub put_terms-requires-clause-stand : goal.put_terms-requires-clause-stand
put_terms-requires-clause-stand c = grind (arith, common_steps)

pub put_terms-requires-clause-valid : goal.put_terms-requires-clause-valid
put_terms-requires-clause-valid c = grind (arith, common_steps)

pub returns : goal.returns
returns c = grind (arith, common_steps)

pub put_terms-requires-clause-empty : goal.put_terms-requires-clause-empty
put_terms-requires-clause-empty c = grind (arith, common_steps)

pub put_terms-requires-clause-numbers : goal.put_terms-requires-clause-numbers
put_terms-requires-clause-numbers c = grind (arith, common_steps)

pub returns-in_default-shifted-2 : goal.returns-in_default-shifted-2
returns-in_default-shifted-2 c = grind (arith, common_steps)

pub returns-in_default-shifted : goal.returns-in_default-shifted
returns-in_default-shifted c = grind (arith, common_steps)

pub returns-in_default : goal.returns-in_default
returns-in_default c = grind (arith, common_steps)

pub same-left : goal.same-left
same-left c = grind (arith, common_steps)
