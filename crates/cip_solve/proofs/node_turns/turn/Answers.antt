use Rattle.std.proofs.lemmas.Result.{IfOk-from_err}
use Rattle.std.proofs.lemmas.Grind.{common_steps}
use Rattle.std.proofs.Common.{Option, sym, subst, arith}
use Rattle.cip_calls.proofs.PassedOn.{come_further}
use Rattle.cip_solve.specs.declared.reached.Reached.{Reached}
use Rattle.cip_solve.proofs.Standing.{decided}
use Rattle.cip_solve.specs.NodesReached.{IsReached, IsReachedIf, IsUsedIn, asks_in_pass}
use Rattle.cip_solve.proofs.Using.{decided_used}
use Rattle.cip_solve.proofs.node_turns.turn.Goals as goal

pub returns-in-Err-clause-come : goal.returns-in-Err-clause-come
returns-in-Err-clause-come g c = come_further _ _ _ _ _ _ _ _ _ _ _ _ _ c.pass.ensures.come c.hear.ensures.come

pub returns-in-Ok-clause-come : goal.returns-in-Ok-clause-come
returns-in-Ok-clause-come g c = come_further _ _ _ _ _ _ _ _ _ _ _ _ _ c.pass.ensures.come c.hear.ensures.come

pub returns-in-Ok-clause-used : goal.returns-in-Ok-clause-used
returns-in-Ok-clause-used g c =
    let first = subst (λ r. IsUsedIn asks_in_pass r (g.R.Seated.state c.args.plugins.now.roster) c.args.plugins.now.judged.items (g.R.Seated.state c.pass.new.plugins.roster) c.pass.new.plugins.judged.items) c.in-Open.is c.in_ok-reached.ensures.used in
    decided_used c.reached_by.result _ _ _ _ _ _ c.pass.ensures.come.sound.settled first c.in-Ok.ensures.used

pub returns-in-Ok-clause-reached : goal.returns-in-Ok-clause-reached
returns-in-Ok-clause-reached g c =
    let old = c.pass.new.work.core in
    let new = c.hear.new.core in
    let is_open = subst (IsReached old c.pass.new.node) c.in-Open.is c.in_ok-reached.ensures.reached in
    subst (λ (r : Option Reached). IsReachedIf new c.hear.new.node r) (sym c.reached_by.ensures)
    (decided old new c.pass.new.node c.hear.new.node c.in-Open.found c.in-Ok.said c.hear.ensures.come.later is_open.0 is_open.1 c.in-Ok.ensures.said)

pub returns-in_err-reached-clause-come : goal.returns-in_err-reached-clause-come
returns-in_err-reached-clause-come g c = c.pass.ensures.come

pub returns-in-Err-clause-used : goal.returns-in-Err-clause-used
returns-in-Err-clause-used g c = grind (arith, common_steps)

pub returns-in-Err-clause-reached : goal.returns-in-Err-clause-reached
returns-in-Err-clause-reached g c = grind (arith, common_steps)

pub pass-requires : goal.pass-requires
pass-requires g c = grind (arith, common_steps)

pub returns-in_err-reached-clause-reached : goal.returns-in_err-reached-clause-reached
returns-in_err-reached-clause-reached g c = IfOk-from_err c.from_residual.result _ c.from_residual.ensures.0

pub returns-in_err-reached-clause-used : goal.returns-in_err-reached-clause-used
returns-in_err-reached-clause-used g c = IfOk-from_err c.from_residual.result _ c.from_residual.ensures.0

pub hear-requires : goal.hear-requires
hear-requires g c = record { ready = (c.pass.ensures.come.ready, c.pass.ensures.come.sound) }

pub returns-in_default-clause-come : goal.returns-in_default-clause-come
returns-in_default-clause-come g c = c.pass.ensures.come

pub returns-in_default-clause-used : goal.returns-in_default-clause-used
returns-in_default-clause-used g c = c.in_ok-reached.ensures.used

pub returns-in_default-clause-reached : goal.returns-in_default-clause-reached
returns-in_default-clause-reached g c = c.in_ok-reached.ensures.reached
