use Rattle.std.proofs.lemmas.Grind.{common_steps}
use Rattle.std.proofs.Common.{arith}
use Rattle.cip_simplex.proofs.candidates.entering_candidate.Goals as goal

pub reciprocal-requires : goal.reciprocal-requires
reciprocal-requires c = grind (arith, common_steps)

pub cost_entry-requires : goal.cost_entry-requires
cost_entry-requires c = grind (arith, common_steps)

pub row_entry-entry-requires-clause-there : goal.row_entry-entry-requires-clause-there
row_entry-entry-requires-clause-there c = grind (arith, common_steps)

pub row_entry-entry-requires-clause-within : goal.row_entry-entry-requires-clause-within
row_entry-entry-requires-clause-within c = grind (arith, common_steps)

pub row_number-requires-clause-within : goal.row_number-requires-clause-within
row_number-requires-clause-within c = grind (arith, common_steps)

pub row_number-requires-clause-there : goal.row_number-requires-clause-there
row_number-requires-clause-there c = grind (arith, common_steps)

pub cost_number-requires : goal.cost_number-requires
cost_number-requires c = grind (arith, common_steps)

pub row_entry-entry-requires-clause-basic : goal.row_entry-entry-requires-clause-basic
row_entry-entry-requires-clause-basic c = grind (arith, common_steps)

pub row_number-requires-clause-basic : goal.row_number-requires-clause-basic
row_number-requires-clause-basic c = grind (arith, common_steps)

pub returns-in-Some-Some : goal.returns-in-Some-Some
returns-in-Some-Some c = grind (arith, common_steps)
