use Rattle.std.proofs.lemmas.Result.{IfOk-from_err, IfOk-weaker}
use Rattle.std.proofs.Common.{◌∷◌, [], ◌∙◌, refl, sym}
use Rattle.cip_plugin.specs.Calls.{Separate}
use Rattle.cip_calls.proofs.PassedOn.{come_further}
use Rattle.cip_calls.proofs.PassedOn.{used_first, used_further, accepted_open}
use Rattle.cip_solve.proofs.Standing.{found_open}
use Rattle.cip_solve.proofs.separating.cut_in_rounds.Goals as goal

pub loop-init : goal.loop-init
loop-init g c = record {
  come = c.tell_now.ensures.come;
  used = c.in_ok-tell_now.ensures.used;
  region = refl;
  found = c.requires.found;
}

pub loop-preserved : goal.loop-preserved
loop-preserved g c = record {
  come = come_further _ _ _ _ _ _ _ _ _ _ _ _ _ c.loop.invariant.come c.cut_once.ensures.come;
  used = used_first [] (Separate ∷ []) _ _ _ _ (used_further [] (Separate ∷ []) _ _ _ _ _ _ c.loop.invariant.come.sound.settled c.loop.invariant.used (c.in_ok-came.ensures.used (λ e. accepted_open (sym c.in-Accepted.is ∙ e))));
  region = c.cut_once.ensures.region ∙ c.loop.invariant.region;
  found = found_open _ _ _ _ (λ e. accepted_open (sym c.in-Accepted.is ∙ e)) c.in_ok-came.ensures.found;
}

pub cut_once-requires-clause-ready : goal.cut_once-requires-clause-ready
cut_once-requires-clause-ready g c = (c.loop.invariant.come.ready, c.loop.invariant.come.sound)

pub cut_once-requires-clause-found : goal.cut_once-requires-clause-found
cut_once-requires-clause-found g c = c.loop.invariant.found

pub cut_once-requires-2-clause-ready : goal.cut_once-requires-2-clause-ready
cut_once-requires-2-clause-ready g c = (c.loop.invariant.come.ready, c.loop.invariant.come.sound)

pub cut_once-requires-2-clause-found : goal.cut_once-requires-2-clause-found
cut_once-requires-2-clause-found g c = c.loop.invariant.found

pub returns-in_default-clause-come : goal.returns-in_default-clause-come
returns-in_default-clause-come g c = come_further _ _ _ _ _ _ _ _ _ _ _ _ _ c.loop.invariant.come c.cut_once.ensures.come

pub returns-in_default-clause-used : goal.returns-in_default-clause-used
returns-in_default-clause-used g c = λ other. used_further [] (Separate ∷ []) _ _ _ _ _ _ c.loop.invariant.come.sound.settled c.loop.invariant.used (c.in_ok-came.ensures.used other)

pub returns-in_default-clause-region : goal.returns-in_default-clause-region
returns-in_default-clause-region g c = c.cut_once.ensures.region ∙ c.loop.invariant.region

pub returns-in_default-clause-found : goal.returns-in_default-clause-found
returns-in_default-clause-found g c = c.in_ok-came.ensures.found

pub returns-clause-come : goal.returns-clause-come
returns-clause-come g c = come_further _ _ _ _ _ _ _ _ _ _ _ _ _ c.loop.invariant.come c.cut_once-2.ensures.come

pub returns-clause-used : goal.returns-clause-used
returns-clause-used g c = IfOk-weaker c.cut_once-2.result _ _ (λ came used other. used_further [] (Separate ∷ []) _ _ _ _ _ _ c.loop.invariant.come.sound.settled c.loop.invariant.used (used other)) c.cut_once-2.ensures.used

pub returns-clause-region : goal.returns-clause-region
returns-clause-region g c = c.cut_once-2.ensures.region ∙ c.loop.invariant.region

pub returns-clause-found : goal.returns-clause-found
returns-clause-found g c = c.cut_once-2.ensures.found

pub returns-in_err-came-clause-come : goal.returns-in_err-came-clause-come
returns-in_err-came-clause-come g c = come_further _ _ _ _ _ _ _ _ _ _ _ _ _ c.loop.invariant.come c.cut_once.ensures.come

pub returns-in_err-came-clause-region : goal.returns-in_err-came-clause-region
returns-in_err-came-clause-region g c = c.cut_once.ensures.region ∙ c.loop.invariant.region

pub returns-in_err-came-clause-found : goal.returns-in_err-came-clause-found
returns-in_err-came-clause-found g c = IfOk-from_err c.from_residual-in_err-came.result _ c.from_residual-in_err-came.ensures.0

pub returns-in_err-tell_now-clause-found : goal.returns-in_err-tell_now-clause-found
returns-in_err-tell_now-clause-found g c = IfOk-from_err c.from_residual.result _ c.from_residual.ensures.0

pub returns-in_err-came-clause-used : goal.returns-in_err-came-clause-used
returns-in_err-came-clause-used g c = IfOk-from_err c.from_residual-in_err-came.result _ c.from_residual-in_err-came.ensures.0

pub returns-in_err-tell_now-clause-used : goal.returns-in_err-tell_now-clause-used
returns-in_err-tell_now-clause-used g c = IfOk-from_err c.from_residual.result _ c.from_residual.ensures.0

pub returns-in_err-tell_now-clause-come : goal.returns-in_err-tell_now-clause-come
returns-in_err-tell_now-clause-come g c = c.tell_now.ensures.come

pub returns-in_err-tell_now-clause-region : goal.returns-in_err-tell_now-clause-region
returns-in_err-tell_now-clause-region g c = refl
