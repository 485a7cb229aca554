use Rattle.std.proofs.lemmas.Grind.{common_steps}
use Rattle.std.proofs.Common.{arith}
use Rattle.cip_report.proofs.buffer.Buffer.flush.Goals as goal

pub returns-clause-taken : goal.returns-clause-taken
returns-clause-taken g c = grind (arith, common_steps)

pub returns-in_err-push_all-clause-taken : goal.returns-in_err-push_all-clause-taken
returns-in_err-push_all-clause-taken g c = grind (arith, common_steps)

pub returns-clause-faults : goal.returns-clause-faults
returns-clause-faults g c = grind (arith, common_steps)

pub same-self : goal.same-self
same-self g c = grind (arith, common_steps)

pub shared_ref_as_front-push_all : goal.shared_ref_as_front-push_all
shared_ref_as_front-push_all g c = grind (arith, common_steps)

pub returns-clause-empty : goal.returns-clause-empty
returns-clause-empty g c = grind (arith, common_steps)
