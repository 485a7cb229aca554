use Rattle.std.proofs.lemmas.Grind.{common_steps}
use Rattle.std.proofs.Common.{arith}
use Rattle.cip_lp.proofs.lengths.name_length.Goals as goal

pub count-requires-clause-fits : goal.count-requires-clause-fits
count-requires-clause-fits c = grind (arith, common_steps)

pub returns-clause-within : goal.returns-clause-within
returns-clause-within c = grind (arith, common_steps)

pub count-requires-clause-can : goal.count-requires-clause-can
count-requires-clause-can c = grind (arith, common_steps)

pub count-requires-clause-finite : goal.count-requires-clause-finite
count-requires-clause-finite c = grind (arith, common_steps)
