use Rattle.std.proofs.lemmas.Result.{IfOk-from_err}
use Rattle.std.proofs.lemmas.Grind.{common_steps}
use Rattle.std.proofs.Common.{arith}
use Rattle.cip_mps.proofs.row_table.make_group.Goals as goal

pub returns-in_ok-push-clause-same : goal.returns-in_ok-push-clause-same
returns-in_ok-push-clause-same c = grind (arith, common_steps)

pub returns-in_ok-push-clause-room : goal.returns-in_ok-push-clause-room
returns-in_ok-push-clause-room c = grind (arith, common_steps)

pub returns-in_ok-push-clause-enough : goal.returns-in_ok-push-clause-enough
returns-in_ok-push-clause-enough c = grind (arith, common_steps)

pub returns-in_err-push-clause-enough : goal.returns-in_err-push-clause-enough
returns-in_err-push-clause-enough c = grind (arith, common_steps)

pub returns-else-len-number-clause-room : goal.returns-else-len-number-clause-room
returns-else-len-number-clause-room c = grind (arith, common_steps)

pub returns-else-len-number-clause-enough : goal.returns-else-len-number-clause-enough
returns-else-len-number-clause-enough c = grind (arith, common_steps)

pub returns-in_err-push-clause-room : goal.returns-in_err-push-clause-room
returns-in_err-push-clause-room c = IfOk-from_err c.from_residual.result _ c.from_residual.ensures.0
