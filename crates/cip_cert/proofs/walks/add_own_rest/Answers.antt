use Rattle.std.proofs.lemmas.Grind.{common_steps}
use Rattle.std.proofs.Common.{arith}
use Rattle.cip_cert.proofs.walks.add_own_rest.Goals as goal

pub returns : goal.returns
returns c = grind (arith, common_steps)

pub returns-then-named-column : goal.returns-then-named-column
returns-then-named-column c = grind (arith, common_steps)

pub overflow_cast-named : goal.overflow_cast-named
overflow_cast-named c = grind (arith, common_steps)
