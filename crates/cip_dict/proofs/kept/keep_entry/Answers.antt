use Rattle.cip_dict.proofs.Dense.{on_err}
use Rattle.std.proofs.lemmas.Result.{IfOk-from_err}
use Rattle.std.proofs.lemmas.Grind.{common_steps}
use Rattle.std.proofs.Common.{arith}
use Rattle.cip_dict.proofs.kept.keep_entry.Goals as goal

pub returns-in_ok-push-clause-kept : goal.returns-in_ok-push-clause-kept
returns-in_ok-push-clause-kept c = grind (arith, common_steps)

pub returns-else-not-vanishes-clause-kept : goal.returns-else-not-vanishes-clause-kept
returns-else-not-vanishes-clause-kept c = grind (arith, common_steps)

pub returns-in_ok-push-clause-refused : goal.returns-in_ok-push-clause-refused
returns-in_ok-push-clause-refused c = grind (arith, common_steps)

pub returns-else-not-vanishes-clause-refused : goal.returns-else-not-vanishes-clause-refused
returns-else-not-vanishes-clause-refused c = grind (arith, common_steps)

pub returns-in_err-push-clause-kept : goal.returns-in_err-push-clause-kept
returns-in_err-push-clause-kept c = IfOk-from_err c.from_residual.result _ c.from_residual.ensures.0

pub returns-in_err-push-clause-refused : goal.returns-in_err-push-clause-refused
returns-in_err-push-clause-refused c = on_err c.from_residual.result c.in_err-push.ensures.items
