use Rattle.std.proofs.lemmas.Grind.{common_steps}
use Rattle.std.proofs.Common.{arith}
use Rattle.cip_simplex.proofs.ways.basic_goal.Goals as goal

pub sides-requires : goal.sides-requires
sides-requires c = grind (arith, common_steps)

pub is_entry_positive-requires-clause-within : goal.is_entry_positive-requires-clause-within
is_entry_positive-requires-clause-within c = grind (arith, common_steps)

pub is_entry_positive-requires-clause-on : goal.is_entry_positive-requires-clause-on
is_entry_positive-requires-clause-on c = grind (arith, common_steps)

pub returns : goal.returns
returns c = grind (arith, common_steps)

pub is_entry_positive-requires-clause-basic : goal.is_entry_positive-requires-clause-basic
is_entry_positive-requires-clause-basic c = grind (arith, common_steps)
