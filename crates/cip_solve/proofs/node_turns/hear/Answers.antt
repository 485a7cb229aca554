use Rattle.std.proofs.lemmas.Result.{IfOk-from_err}
use Rattle.std.proofs.lemmas.Grind.{common_steps}
use Rattle.std.proofs.Common.{[], arith}
use Rattle.cip_calls.proofs.PassedOn.{come_further}
use Rattle.cip_calls.proofs.PassedOn.{used_further}
use Rattle.cip_solve.proofs.node_turns.hear.Goals as goal

pub returns-in_err-tell_now-clause-come : goal.returns-in_err-tell_now-clause-come
returns-in_err-tell_now-clause-come g c = come_further _ _ _ _ _ _ _ _ _ _ _ _ _ c.enforce.ensures.come c.tell_now.ensures.come

pub returns-clause-come : goal.returns-clause-come
returns-clause-come g c = come_further _ _ _ _ _ _ _ _ _ _ _ _ _ c.enforce.ensures.come c.tell_now.ensures.come

pub returns-clause-used : goal.returns-clause-used
returns-clause-used g c = used_further [] [] _ _ _ _ _ _ c.enforce.ensures.come.sound.settled c.in_ok-said.ensures.used c.in_ok-tell_now.ensures.used

pub returns-clause-said : goal.returns-clause-said
returns-clause-said g c = c.in_ok-said.ensures.verdict

pub tell_now-requires : goal.tell_now-requires
tell_now-requires g c = record { ready = (c.enforce.ensures.come.ready, c.enforce.ensures.come.sound) }

pub returns-in_err-said-clause-come : goal.returns-in_err-said-clause-come
returns-in_err-said-clause-come g c = c.enforce.ensures.come

pub enforce-requires-clause-ready : goal.enforce-requires-clause-ready
enforce-requires-clause-ready g c = grind (arith, common_steps)

pub returns-in_err-said-clause-said : goal.returns-in_err-said-clause-said
returns-in_err-said-clause-said g c = IfOk-from_err c.from_residual.result _ c.from_residual.ensures.0

pub returns-in_err-said-clause-used : goal.returns-in_err-said-clause-used
returns-in_err-said-clause-used g c = IfOk-from_err c.from_residual.result _ c.from_residual.ensures.0

pub returns-in_err-tell_now-clause-said : goal.returns-in_err-tell_now-clause-said
returns-in_err-tell_now-clause-said g c = IfOk-from_err c.from_residual-in_err-tell_now.result _ c.from_residual-in_err-tell_now.ensures.0

pub returns-in_err-tell_now-clause-used : goal.returns-in_err-tell_now-clause-used
returns-in_err-tell_now-clause-used g c = IfOk-from_err c.from_residual-in_err-tell_now.result _ c.from_residual-in_err-tell_now.ensures.0
