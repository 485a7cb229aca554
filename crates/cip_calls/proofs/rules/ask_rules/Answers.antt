use Rattle.std.proofs.lemmas.Result.{IfOk-from_err}
use Rattle.std.proofs.lemmas.Grind.{common_steps}
use Rattle.cip_calls.specs.Asked.{IsSeatedNext}
use Rattle.std.proofs.Common.{refl, ◌∙◌, subst, arith}
use Rattle.cip_plugin.specs.Calls.{Branch}
use Rattle.cip_calls.specs.Waiting.{HasAskedNext}
use Rattle.cip_calls.proofs.Noting.{noted_run, run_further}
use Rattle.cip_calls.proofs.SoFar.{so_far_none, so_far_more, so_far_ran, next_ran, fewer_wait, used_part, used_all, judged_made, end_next}
use Rattle.cip_calls.proofs.rules.ask_rules.Goals as goal
use Rattle.cip_roster.proofs.Delivery.{ran_same}

pub loop-id-init : goal.loop-id-init
loop-id-init g c = record {
  sound = c.requires.sound;
  so_far = so_far_none Branch (g.R.Seated.state c.args.plugins.now.roster) c.args.plugins.now.judged.items;
  scratches = refl;
}

pub returns-in_err-id-clause-run : goal.returns-in_err-id-clause-run
returns-in_err-id-clause-run g c =
    run_further _ _ _ (so_far_ran Branch _ _ _ _ _ c.loop-id.invariant.so_far) (ran_same _ _ c.in_err-id.ensures.err)

pub returns-in_err-found-clause-run : goal.returns-in_err-found-clause-run
returns-in_err-found-clause-run g c =
    run_further _ _ _ (so_far_ran Branch _ _ _ _ _ c.loop-id.invariant.so_far)
    (run_further _ _ _ (next_ran Branch _ _ _ _ c.in_ok-id.ensures.asked) (noted_run _ _ c.take_rule.ensures.noted))

pub returns-in_err-found-clause-scratches : goal.returns-in_err-found-clause-scratches
returns-in_err-found-clause-scratches g c = c.take_rule.ensures.scratches ∙ c.loop-id.invariant.scratches

pub returns-in-Some-found-clause-run : goal.returns-in-Some-found-clause-run
returns-in-Some-found-clause-run g c =
    run_further _ _ _ (so_far_ran Branch _ _ _ _ _ c.loop-id.invariant.so_far)
    (run_further _ _ _ (next_ran Branch _ _ _ _ c.in_ok-id.ensures.asked) (noted_run _ _ c.take_rule.ensures.noted))

pub returns-in-Some-found-clause-scratches : goal.returns-in-Some-found-clause-scratches
returns-in-Some-found-clause-scratches g c = c.take_rule.ensures.scratches ∙ c.loop-id.invariant.scratches

pub returns-in-Some-found-clause-used : goal.returns-in-Some-found-clause-used
returns-in-Some-found-clause-used g c =
    used_part Branch _ _ _ _ _
    (so_far_more Branch _ _ _ _ _ _ _ _ c.in-Some.id c.in-Some.given c.loop-id.invariant.so_far
    (subst (HasAskedNext Branch (g.R.Seated.state c.loop-id.plugins.roster) (g.R.Seated.state c.ask_next.new.self) c.loop-id.after) c.in-Some.is c.in_ok-id.ensures.asked)
    c.take_rule.ensures.noted (judged_made _ _ c.in-Some.id _ _ c.split_of-split.ensures c.in_ok-found.ensures.judged))

pub loop-id-smaller : goal.loop-id-smaller
loop-id-smaller g c =
    fewer_wait Branch _ _ _ _ c.in-Some.id c.in-Some.given
    (subst (HasAskedNext Branch (g.R.Seated.state c.loop-id.plugins.roster) (g.R.Seated.state c.ask_next.new.self) c.loop-id.after) c.in-Some.is c.in_ok-id.ensures.asked)
    c.take_rule.ensures.noted

pub loop-id-preserved : goal.loop-id-preserved
loop-id-preserved g c = record {
  sound = c.take_rule.ensures.sound;
  so_far = so_far_more Branch _ _ _ _ _ _ _ _ c.in-Some.id c.in-Some.given c.loop-id.invariant.so_far
      (subst (HasAskedNext Branch (g.R.Seated.state c.loop-id.plugins.roster) (g.R.Seated.state c.ask_next.new.self) c.loop-id.after) c.in-Some.is c.in_ok-id.ensures.asked)
      c.take_rule.ensures.noted (judged_made _ _ c.in-Some.id _ _ c.split_of-split.ensures c.in_ok-found.ensures.judged);
  scratches = c.take_rule.ensures.scratches ∙ c.loop-id.invariant.scratches;
}

pub returns-clause-run : goal.returns-clause-run
returns-clause-run g c =
    run_further _ _ _ (so_far_ran Branch _ _ _ _ _ c.loop-id.invariant.so_far) (next_ran Branch _ _ _ _ c.in_ok-id.ensures.asked)

pub returns-clause-used : goal.returns-clause-used
returns-clause-used g c =
    used_all Branch _ _ _ _ _ _ (λ s. refl) c.loop-id.invariant.so_far
    (end_next Branch _ _ _ _ c.in_default.not-Some c.in_ok-id.ensures.asked)

pub take_rule-requires-clause-seat : goal.take_rule-requires-clause-seat
take_rule-requires-clause-seat g c = subst (IsSeatedNext (g.R.Seated.state c.ask_next.new.self)) c.in-Some.is c.in_ok-id.ensures.seated

pub take_rule-requires-clause-at_work : goal.take_rule-requires-clause-at_work
take_rule-requires-clause-at_work g c = c.requires.at_work

pub returns-clause-place : goal.returns-clause-place
returns-clause-place g c = omega arith

pub returns-in-Some-found-clause-place : goal.returns-in-Some-found-clause-place
returns-in-Some-found-clause-place g c = grind (arith, common_steps)

pub returns-in-Some-found-clause-sound : goal.returns-in-Some-found-clause-sound
returns-in-Some-found-clause-sound g c = c.take_rule.ensures.sound

pub returns-clause-scratches : goal.returns-clause-scratches
returns-clause-scratches g c = c.loop-id.invariant.scratches

pub returns-clause-sound : goal.returns-clause-sound
returns-clause-sound g c = c.ask_next.ensures.sound

pub take_rule-requires-clause-sound : goal.take_rule-requires-clause-sound
take_rule-requires-clause-sound g c = c.ask_next.ensures.sound

pub returns-in_err-id-clause-used : goal.returns-in_err-id-clause-used
returns-in_err-id-clause-used g c = IfOk-from_err c.from_residual.result _ c.from_residual.ensures.0

pub returns-in_err-found-clause-used : goal.returns-in_err-found-clause-used
returns-in_err-found-clause-used g c = IfOk-from_err c.from_residual-in_err-found.result _ c.from_residual-in_err-found.ensures.0

pub returns-in_err-found-clause-place : goal.returns-in_err-found-clause-place
returns-in_err-found-clause-place g c = IfOk-from_err c.from_residual-in_err-found.result _ c.from_residual-in_err-found.ensures.0

pub returns-in_err-id-clause-place : goal.returns-in_err-id-clause-place
returns-in_err-id-clause-place g c = IfOk-from_err c.from_residual.result _ c.from_residual.ensures.0

pub returns-in_err-id-clause-scratches : goal.returns-in_err-id-clause-scratches
returns-in_err-id-clause-scratches g c = c.loop-id.invariant.scratches

pub returns-in_err-found-clause-sound : goal.returns-in_err-found-clause-sound
returns-in_err-found-clause-sound g c = c.take_rule.ensures.sound

pub returns-in_err-id-clause-sound : goal.returns-in_err-id-clause-sound
returns-in_err-id-clause-sound g c = c.ask_next.ensures.sound

pub ask_next-requires : goal.ask_next-requires
ask_next-requires g c = record { sound = c.loop-id.invariant.sound }
