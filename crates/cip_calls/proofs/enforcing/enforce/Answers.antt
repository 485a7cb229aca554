use Rattle.std.proofs.lemmas.Result.{IfOk-from_err}
use Rattle.cip_calls.specs.Asked.{IsSeatedNext}
use Rattle.std.proofs.Common.{[], ◌∷◌, refl, subst}
use Rattle.cip_plugin.specs.Calls.{Enforce}
use Rattle.cip_calls.specs.Waiting.{HasAskedNext}
use Rattle.cip_calls.proofs.Serving.{used_last}
use Rattle.cip_calls.proofs.Noting.{come_called}
use Rattle.cip_calls.specs.Enforcing.{IsVerdict}
use Rattle.cip_calls.proofs.Said.{alone_none, alone_further, come_more, come_went, verdict_further}
use Rattle.cip_calls.proofs.SoFar.{so_far_none, so_far_more, next_ran, fewer_wait, used_part, used_all, judged_made, end_next}
use Rattle.cip_calls.proofs.enforcing.enforce.Goals as goal
use Rattle.cip_roster.proofs.Delivery.{ran_same}

pub loop-id-init : goal.loop-id-init
loop-id-init g c = record {
  come = come_called c.args.core.now c.args.node.now _ _ (g.R.Seated.room c.args.plugins.now.roster) c.args.plugins.now.scratches c.requires.ready c.requires.sound (record { steps = []; run = refl });
  so_far = so_far_none Enforce (g.R.Seated.state c.args.plugins.now.roster) c.args.plugins.now.judged.items;
  alone = alone_none c.args.core.now c.args.node.now;
}

pub returns-in_err-id-clause-come : goal.returns-in_err-id-clause-come
returns-in_err-id-clause-come g c =
    come_more _ _ _ _ _ _ _ _ _ _ c.loop-id.invariant.come c.ask_next.ensures.sound (ran_same _ _ c.in_err-id.ensures.err)

pub returns-in_err-verdict-clause-come : goal.returns-in_err-verdict-clause-come
returns-in_err-verdict-clause-come g c =
    come_went _ _ _ _ _ _ _ _ _ _ _ _ _ _ c.loop-id.invariant.come (next_ran Enforce _ _ _ _ c.in_ok-id.ensures.asked) c.take_verdict.ensures.gone

pub returns-in_default-2-clause-come : goal.returns-in_default-2-clause-come
returns-in_default-2-clause-come g c =
    come_went _ _ _ _ _ _ _ _ _ _ _ _ _ _ c.loop-id.invariant.come (next_ran Enforce _ _ _ _ c.in_ok-id.ensures.asked) c.take_verdict.ensures.gone

pub returns-in_default-2-clause-used : goal.returns-in_default-2-clause-used
returns-in_default-2-clause-used g c =
    used_part Enforce _ _ _ _ _
    (so_far_more Enforce _ _ _ _ _ _ _ _ c.in-Some.id c.in-Some.given c.loop-id.invariant.so_far
    (subst (HasAskedNext Enforce (g.R.Seated.state c.loop-id.plugins.roster) (g.R.Seated.state c.ask_next.new.self) c.loop-id.after) c.in-Some.is c.in_ok-id.ensures.asked)
    c.take_verdict.ensures.gone.noted (judged_made _ _ c.in-Some.id _ _ c.said_of-said.ensures c.in_ok-verdict.ensures.judged))

pub returns-in_default-2-clause-all : goal.returns-in_default-2-clause-all
returns-in_default-2-clause-all g c = λ e. absurd (c.in_default-2.not-Quiet e)

pub returns-in_default-2-clause-verdict : goal.returns-in_default-2-clause-verdict
returns-in_default-2-clause-verdict g c =
    verdict_further _ _ _ _ _ _ c.in_ok-verdict.verdict c.loop-id.invariant.alone c.in_ok-verdict.ensures.verdict

pub loop-id-smaller : goal.loop-id-smaller
loop-id-smaller g c =
    fewer_wait Enforce _ _ _ _ c.in-Some.id c.in-Some.given
    (subst (HasAskedNext Enforce (g.R.Seated.state c.loop-id.plugins.roster) (g.R.Seated.state c.ask_next.new.self) c.loop-id.after) c.in-Some.is c.in_ok-id.ensures.asked)
    c.take_verdict.ensures.gone.noted

pub loop-id-preserved : goal.loop-id-preserved
loop-id-preserved g c = record {
  come = come_went _ _ _ _ _ _ _ _ _ _ _ _ _ _ c.loop-id.invariant.come (next_ran Enforce _ _ _ _ c.in_ok-id.ensures.asked) c.take_verdict.ensures.gone;
  so_far = so_far_more Enforce _ _ _ _ _ _ _ _ c.in-Some.id c.in-Some.given c.loop-id.invariant.so_far
      (subst (HasAskedNext Enforce (g.R.Seated.state c.loop-id.plugins.roster) (g.R.Seated.state c.ask_next.new.self) c.loop-id.after) c.in-Some.is c.in_ok-id.ensures.asked)
      c.take_verdict.ensures.gone.noted (judged_made _ _ c.in-Some.id _ _ c.said_of-said.ensures c.in_ok-verdict.ensures.judged);
  alone = alone_further _ _ _ _ _ _ c.loop-id.invariant.alone
      (subst (IsVerdict c.loop-id.core c.take_verdict.new.core c.loop-id.node c.take_verdict.new.node) c.in-Quiet.is c.in_ok-verdict.ensures.verdict);
}

pub returns-clause-come : goal.returns-clause-come
returns-clause-come g c =
    come_more _ _ _ _ _ _ _ _ _ _ c.loop-id.invariant.come c.ask_next.ensures.sound (next_ran Enforce _ _ _ _ c.in_ok-id.ensures.asked)

pub returns-clause-used : goal.returns-clause-used
returns-clause-used g c =
    used_last (Enforce ∷ []) [] _ _ _ _
    (used_all Enforce _ _ _ _ _ _ (λ s. refl) c.loop-id.invariant.so_far
    (end_next Enforce _ _ _ _ c.in_default.not-Some c.in_ok-id.ensures.asked))

pub returns-clause-all : goal.returns-clause-all
returns-clause-all g c = λ _.
    used_all Enforce _ _ _ _ _ _ (λ s. refl) c.loop-id.invariant.so_far
    (end_next Enforce _ _ _ _ c.in_default.not-Some c.in_ok-id.ensures.asked)

pub returns-clause-verdict : goal.returns-clause-verdict
returns-clause-verdict g c = c.loop-id.invariant.alone

pub take_verdict-requires-clause-seat : goal.take_verdict-requires-clause-seat
take_verdict-requires-clause-seat g c = subst (IsSeatedNext (g.R.Seated.state c.ask_next.new.self)) c.in-Some.is c.in_ok-id.ensures.seated

pub take_verdict-requires-clause-ready : goal.take_verdict-requires-clause-ready
take_verdict-requires-clause-ready g c = c.loop-id.invariant.come.ready

pub take_verdict-requires-clause-sound : goal.take_verdict-requires-clause-sound
take_verdict-requires-clause-sound g c = c.ask_next.ensures.sound

pub returns-in_err-id-clause-all : goal.returns-in_err-id-clause-all
returns-in_err-id-clause-all g c = IfOk-from_err c.from_residual.result _ c.from_residual.ensures.0

pub returns-in_err-verdict-clause-all : goal.returns-in_err-verdict-clause-all
returns-in_err-verdict-clause-all g c = IfOk-from_err c.from_residual-in_err-verdict.result _ c.from_residual-in_err-verdict.ensures.0

pub returns-in_err-id-clause-used : goal.returns-in_err-id-clause-used
returns-in_err-id-clause-used g c = IfOk-from_err c.from_residual.result _ c.from_residual.ensures.0

pub returns-in_err-verdict-clause-used : goal.returns-in_err-verdict-clause-used
returns-in_err-verdict-clause-used g c = IfOk-from_err c.from_residual-in_err-verdict.result _ c.from_residual-in_err-verdict.ensures.0

pub returns-in_err-verdict-clause-verdict : goal.returns-in_err-verdict-clause-verdict
returns-in_err-verdict-clause-verdict g c = IfOk-from_err c.from_residual-in_err-verdict.result _ c.from_residual-in_err-verdict.ensures.0

pub returns-in_err-id-clause-verdict : goal.returns-in_err-id-clause-verdict
returns-in_err-id-clause-verdict g c = IfOk-from_err c.from_residual.result _ c.from_residual.ensures.0

pub ask_next-requires : goal.ask_next-requires
ask_next-requires g c = record { sound = c.loop-id.invariant.come.sound }
