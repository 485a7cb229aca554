use Rattle.std.proofs.lemmas.Grind.{common_steps}
use Rattle.std.proofs.Common.{arith}
use Rattle.cip_model.proofs.names.written.Goals as goal

pub returns-in-Ok-clause-written : goal.returns-in-Ok-clause-written
returns-in-Ok-clause-written c = grind (arith, common_steps)

pub returns-in-Err-clause-written : goal.returns-in-Err-clause-written
returns-in-Err-clause-written c = grind (arith, common_steps)

pub put_hint-requires : goal.put_hint-requires
put_hint-requires c = grind (arith, common_steps)

pub returns-in-Err-clause-ends : goal.returns-in-Err-clause-ends
returns-in-Err-clause-ends c = grind (arith, common_steps)

pub returns-in-Ok-clause-ends : goal.returns-in-Ok-clause-ends
returns-in-Ok-clause-ends c = grind (arith, common_steps)

pub returns-in_err-reserve-clause-ends : goal.returns-in_err-reserve-clause-ends
returns-in_err-reserve-clause-ends c = grind (arith, common_steps)

pub returns-in_err-put_hint-clause-ends : goal.returns-in_err-put_hint-clause-ends
returns-in_err-put_hint-clause-ends c = grind (arith, common_steps)

pub overflow_cast-end : goal.overflow_cast-end
overflow_cast-end c = grind (arith, common_steps)

pub returns-in_default-clause-ends : goal.returns-in_default-clause-ends
returns-in_default-clause-ends c = grind (arith, common_steps)

pub returns-in_default-clause-written : goal.returns-in_default-clause-written
returns-in_default-clause-written c = grind (arith, common_steps)

pub returns-in_default-2-clause-ends : goal.returns-in_default-2-clause-ends
returns-in_default-2-clause-ends c = grind (arith, common_steps)

pub returns-in_default-2-clause-written : goal.returns-in_default-2-clause-written
returns-in_default-2-clause-written c = grind (arith, common_steps)
