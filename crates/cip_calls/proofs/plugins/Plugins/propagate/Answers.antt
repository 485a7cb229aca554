use Rattle.std.proofs.lemmas.Result.{IfOk-from_err}
use Rattle.std.proofs.lemmas.Grind.{common_steps}
use Rattle.std.proofs.Common.{◌∷◌, [], sym, ◌∙◌, arith}
use Rattle.cip_plugin.specs.Calls.{Propagate}
use Rattle.cip_calls.proofs.Noting.{come_further}
use Rattle.cip_calls.proofs.Pools.{sides_not_cuts}
use Rattle.cip_calls.proofs.Serving.{used_again, accepted_open}
use Rattle.cip_calls.proofs.plugins.Plugins.propagate.Goals as goal

pub returns-in_err-first-clause-pool : goal.returns-in_err-first-clause-pool
returns-in_err-first-clause-pool g c = c.ask_round.ensures.pool sides_not_cuts

pub loop-init : goal.loop-init
loop-init g c = record {
  come = c.ask_round.ensures.come;
  used = c.in_ok-first.ensures.used;
  emptied = c.in_ok-first.ensures.emptied;
  pool = c.ask_round.ensures.pool sides_not_cuts;
}

pub returns-in_err-newest-clause-come : goal.returns-in_err-newest-clause-come
returns-in_err-newest-clause-come g c = come_further _ _ _ _ _ _ _ _ _ _ _ _ _ c.loop.invariant.come c.ask_round-in-loop.ensures.come

pub returns-in_err-newest-clause-pool : goal.returns-in_err-newest-clause-pool
returns-in_err-newest-clause-pool g c = c.ask_round-in-loop.ensures.pool sides_not_cuts ∙ c.loop.invariant.pool

pub loop-preserved : goal.loop-preserved
loop-preserved g c = record {
  come = come_further _ _ _ _ _ _ _ _ _ _ _ _ _ c.loop.invariant.come c.ask_round-in-loop.ensures.come;
  used = λ other. used_again (Propagate ∷ []) _ _ _ _ _ _ c.loop.invariant.come.sound.settled
      (c.loop.invariant.used (λ e. accepted_open (sym c.in-Accepted.is ∙ e))) (c.in_ok-newest.ensures.used other);
  emptied = c.in_ok-newest.ensures.emptied;
  pool = c.ask_round-in-loop.ensures.pool sides_not_cuts ∙ c.loop.invariant.pool;
}

pub returns-clause-used : goal.returns-clause-used
returns-clause-used g c = λ other. c.loop.invariant.used (c.came_in_rounds.ensures.others other)

pub returns-clause-emptied : goal.returns-clause-emptied
returns-clause-emptied g c = λ e. c.loop.invariant.emptied (c.came_in_rounds.ensures.emptied e)

pub ask_round-requires-clause-ready : goal.ask_round-requires-clause-ready
ask_round-requires-clause-ready g c = c.requires.ready

pub ask_round-requires-clause-sound : goal.ask_round-requires-clause-sound
ask_round-requires-clause-sound g c = c.requires.sound

pub returns-clause-come : goal.returns-clause-come
returns-clause-come g c = grind (arith, common_steps)

pub returns-clause-pool : goal.returns-clause-pool
returns-clause-pool g c = grind (arith, common_steps)

pub ask_round-requires-in-loop-clause-ready : goal.ask_round-requires-in-loop-clause-ready
ask_round-requires-in-loop-clause-ready g c = c.loop.invariant.come.ready

pub ask_round-requires-in-loop-clause-sound : goal.ask_round-requires-in-loop-clause-sound
ask_round-requires-in-loop-clause-sound g c = c.loop.invariant.come.sound

pub returns-in_err-first-clause-come : goal.returns-in_err-first-clause-come
returns-in_err-first-clause-come g c = grind (arith, common_steps)

pub returns-in_err-newest-clause-used : goal.returns-in_err-newest-clause-used
returns-in_err-newest-clause-used g c = IfOk-from_err c.from_residual-in_err-newest.result _ c.from_residual-in_err-newest.ensures.0

pub returns-in_err-newest-clause-emptied : goal.returns-in_err-newest-clause-emptied
returns-in_err-newest-clause-emptied g c = IfOk-from_err c.from_residual-in_err-newest.result _ c.from_residual-in_err-newest.ensures.0

pub returns-in_err-first-clause-used : goal.returns-in_err-first-clause-used
returns-in_err-first-clause-used g c = IfOk-from_err c.from_residual.result _ c.from_residual.ensures.0

pub returns-in_err-first-clause-emptied : goal.returns-in_err-first-clause-emptied
returns-in_err-first-clause-emptied g c = IfOk-from_err c.from_residual.result _ c.from_residual.ensures.0
