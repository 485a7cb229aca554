use Rattle.std.proofs.lemmas.Result.{IfOk-from_err}
use Rattle.std.proofs.Common.{◌∷◌, []}
use Rattle.cip_plugin.specs.Calls.{Search}
use Rattle.cip_calls.proofs.PassedOn.{come_further}
use Rattle.cip_calls.proofs.PassedOn.{points_not_sides}
use Rattle.cip_calls.proofs.PassedOn.{used_further}
use Rattle.cip_solve.proofs.Standing.{found_stays, open_stays, points_not_cuts}
use Rattle.cip_solve.proofs.Using.{from_ok, in_then}
use Rattle.cip_solve.proofs.passes.improve.Goals as goal

pub returns-in_err-_came-clause-come : goal.returns-in_err-_came-clause-come
returns-in_err-_came-clause-come g c = come_further _ _ _ _ _ _ _ _ _ _ _ _ _ c.tell_now.ensures.come c.ask_round.ensures.come

pub returns-in_err-_came-clause-open_ : goal.returns-in_err-_came-clause-open_
returns-in_err-_came-clause-open_ g c = (
  open_stays c.args.core.now c.ask_round.new.core c.args.node.now c.ask_round.new.node c.ask_round.ensures.come.later (c.ask_round.ensures.node points_not_sides) c.requires.open_.0,
  found_stays c.args.core.now c.ask_round.new.core c.args.node.now c.ask_round.new.node c.args.found.now c.ask_round.ensures.come.later (c.ask_round.ensures.pool points_not_cuts) (c.ask_round.ensures.node points_not_sides) c.requires.open_.1,
)

pub returns-clause-open_ : goal.returns-clause-open_
returns-clause-open_ g c = (
  open_stays c.args.core.now c.ask_round.new.core c.args.node.now c.ask_round.new.node c.ask_round.ensures.come.later (c.ask_round.ensures.node points_not_sides) c.requires.open_.0,
  found_stays c.args.core.now c.ask_round.new.core c.args.node.now c.ask_round.new.node c.args.found.now c.ask_round.ensures.come.later (c.ask_round.ensures.pool points_not_cuts) (c.ask_round.ensures.node points_not_sides) c.requires.open_.1,
)

pub returns-clause-come : goal.returns-clause-come
returns-clause-come g c =
    come_further _ _ _ _ _ _ _ _ _ _ _ _ _ (come_further _ _ _ _ _ _ _ _ _ _ _ _ _ c.tell_now.ensures.come c.ask_round.ensures.come) c.tell_now-2.ensures.come

pub returns-clause-used : goal.returns-clause-used
returns-clause-used g c =
    from_ok c.tell_now-2.result _ _ c.tell_now-2.ensures.used
    (λ _ last. in_then (Search ∷ []) _ _ _ _ _ _ c.ask_round.ensures.come.sound.settled
    (used_further [] (Search ∷ []) _ _ _ _ _ _ c.tell_now.ensures.come.sound.settled c.in_ok-tell_now.ensures.used (c.in_ok-_came.ensures.used (λ e. points_not_sides (c.in_ok-_came.ensures.sides e)))) last)

pub ask_round-requires-clause-ready : goal.ask_round-requires-clause-ready
ask_round-requires-clause-ready g c = c.tell_now.ensures.come.ready

pub ask_round-requires-clause-sound : goal.ask_round-requires-clause-sound
ask_round-requires-clause-sound g c = c.tell_now.ensures.come.sound

pub returns-in_err-tell_now-clause-open_ : goal.returns-in_err-tell_now-clause-open_
returns-in_err-tell_now-clause-open_ g c = c.requires.open_

pub tell_now-requires-2 : goal.tell_now-requires-2
tell_now-requires-2 g c = record { ready = (c.ask_round.ensures.come.ready, c.ask_round.ensures.come.sound) }

pub tell_now-requires : goal.tell_now-requires
tell_now-requires g c = record { ready = c.requires.ready }

pub returns-in_err-_came-clause-used : goal.returns-in_err-_came-clause-used
returns-in_err-_came-clause-used g c = IfOk-from_err c.from_residual-in_err-_came.result _ c.from_residual-in_err-_came.ensures.0

pub returns-in_err-tell_now-clause-used : goal.returns-in_err-tell_now-clause-used
returns-in_err-tell_now-clause-used g c = IfOk-from_err c.from_residual.result _ c.from_residual.ensures.0

pub returns-in_err-tell_now-clause-come : goal.returns-in_err-tell_now-clause-come
returns-in_err-tell_now-clause-come g c = c.tell_now.ensures.come
