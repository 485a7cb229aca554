use Rattle.std.proofs.lemmas.Grind.{common_steps}
use Rattle.std.proofs.Common.{arith}
use Rattle.cip_lp.proofs.lengths.sign_length.Goals as goal

pub bounds-bytes-0 : goal.bounds-bytes-0
bounds-bytes-0 c = grind (arith, common_steps)

pub returns-in-43-clause-within : goal.returns-in-43-clause-within
returns-in-43-clause-within c = grind (arith, common_steps)

pub returns-in_default-2-clause-value : goal.returns-in_default-2-clause-value
returns-in_default-2-clause-value c = grind (arith, common_steps)

pub returns-in-43-clause-value : goal.returns-in-43-clause-value
returns-in-43-clause-value c = grind (arith, common_steps)

pub returns-in_default-clause-value : goal.returns-in_default-clause-value
returns-in_default-clause-value c = grind (arith, common_steps)
