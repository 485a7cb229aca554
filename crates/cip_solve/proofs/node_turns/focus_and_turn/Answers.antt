use Rattle.std.proofs.lemmas.Grind.{common_steps}
use Rattle.std.proofs.Common.{◌∷◌, [], subst, arith}
use Rattle.cip_events.specs.Events.{event_at}
use Rattle.cip_events.specs.declared.events.EventKind.TheVariants.{NodeFocused}
use Rattle.cip_plugin.specs.Calls.{OnEvent}
use Rattle.std.proofs.lemmas.Result.{IfOk-weaker, IfOk-from_err}
use Rattle.cip_calls.proofs.PassedOn.{come_further, used_further}
use Rattle.cip_solve.specs.NodesReached.{IsReachedIf, IsUsedIf, asks_in_pass}
use Rattle.cip_solve.proofs.Coming.{come_told}
use Rattle.cip_solve.proofs.Using.{in_further}
use Rattle.cip_solve.proofs.node_turns.focus_and_turn.Goals as goal

pub focus-requires : goal.focus-requires
focus-requires g c = record { sound = c.requires.ready.1 }

pub returns-in_err-focus-clause-come : goal.returns-in_err-focus-clause-come
returns-in_err-focus-clause-come g c = come_told c.args.work.now.core c.args.node.now _ _ _ _ _ c.focus.ensures.frame.0 c.requires.ready.0 c.focus.ensures.sound c.focus.ensures.run

pub loop-init : goal.loop-init
loop-init g c = record {
  come = come_told c.args.work.now.core c.args.node.now _ _ _ _ _ c.focus.ensures.frame.0 c.requires.ready.0 c.focus.ensures.sound c.focus.ensures.run;
  used = c.in_ok-focus.ensures.used;
}

pub loop-preserved : goal.loop-preserved
loop-preserved g c = record {
  come = come_further _ _ _ _ _ _ _ _ _ _ _ _ _ c.loop.invariant.come c.turn.ensures.come;
  used = used_further (OnEvent (event_at c.args.node.now.number NodeFocused) ∷ []) [] _ _ _ _ _ _ c.loop.invariant.come.sound.settled c.loop.invariant.used (subst (λ t. IsUsedIf t (g.R.Seated.state c.loop.plugins.roster) c.loop.plugins.judged.items (g.R.Seated.state c.turn.new.plugins.roster) c.turn.new.plugins.judged.items) c.in-None.is c.in_ok-turn.ensures.used);
}

pub returns-in_err-turn-clause-come : goal.returns-in_err-turn-clause-come
returns-in_err-turn-clause-come g c = come_further _ _ _ _ _ _ _ _ _ _ _ _ _ c.loop.invariant.come c.turn.ensures.come

pub returns-in-Some-clause-come : goal.returns-in-Some-clause-come
returns-in-Some-clause-come g c = come_further _ _ _ _ _ _ _ _ _ _ _ _ _ c.loop.invariant.come c.turn.ensures.come

pub returns-in-Some-clause-used : goal.returns-in-Some-clause-used
returns-in-Some-clause-used g c =
    in_further (OnEvent (event_at c.args.node.now.number NodeFocused) ∷ []) asks_in_pass c.in-Some.reached _ _ _ _ _ _ c.loop.invariant.come.sound.settled c.loop.invariant.used (subst (λ t. IsUsedIf t (g.R.Seated.state c.loop.plugins.roster) c.loop.plugins.judged.items (g.R.Seated.state c.turn.new.plugins.roster) c.turn.new.plugins.judged.items) c.in-Some.is c.in_ok-turn.ensures.used)

pub returns-in-Some-clause-reached : goal.returns-in-Some-clause-reached
returns-in-Some-clause-reached g c = subst (IsReachedIf c.turn.new.work.core c.turn.new.node) c.in-Some.is c.in_ok-turn.ensures.reached

pub returns-clause-come : goal.returns-clause-come
returns-clause-come g c = come_further _ _ _ _ _ _ _ _ _ _ _ _ _ c.loop.invariant.come c.pass.ensures.come

pub returns-clause-used : goal.returns-clause-used
returns-clause-used g c =
    IfOk-weaker c.pass.result _ _
    (λ reached used. in_further (OnEvent (event_at c.args.node.now.number NodeFocused) ∷ []) asks_in_pass reached _ _ _ _ _ _ c.loop.invariant.come.sound.settled c.loop.invariant.used used)
    c.pass.ensures.used

pub returns-clause-reached : goal.returns-clause-reached
returns-clause-reached g c = grind (arith, common_steps)

pub returns-in_err-focus-clause-reached : goal.returns-in_err-focus-clause-reached
returns-in_err-focus-clause-reached g c = IfOk-from_err c.from_residual.result _ c.from_residual.ensures.0

pub returns-in_err-focus-clause-used : goal.returns-in_err-focus-clause-used
returns-in_err-focus-clause-used g c = IfOk-from_err c.from_residual.result _ c.from_residual.ensures.0

pub returns-in_err-turn-clause-reached : goal.returns-in_err-turn-clause-reached
returns-in_err-turn-clause-reached g c = IfOk-from_err c.from_residual-in_err-turn.result _ c.from_residual-in_err-turn.ensures.0

pub returns-in_err-turn-clause-used : goal.returns-in_err-turn-clause-used
returns-in_err-turn-clause-used g c = IfOk-from_err c.from_residual-in_err-turn.result _ c.from_residual-in_err-turn.ensures.0
