use Rattle.std.proofs.lemmas.Result.{IfOk-from_err}
use Rattle.std.proofs.lemmas.Grind.{common_steps}
use Rattle.std.proofs.Common.{◌∷◌, [], ◌∙◌, length, refl, sym, ap, subst, arith}
use Rattle.cip_plugin.specs.Calls.{Propagate}
use Rattle.cip_problem.specs.Program.{Program}
use Rattle.cip_node_rules.specs.BoxLooks.{IsBoxLook}
use Rattle.cip_calls.proofs.PassedOn.{come_further, work_long}
use Rattle.cip_node.proofs.Looked.{look_entered}
use Rattle.cip_solve.proofs.Standing.{seen_of}
use Rattle.cip_solve.proofs.Using.{in_then}
use Rattle.cip_solve.proofs.looking.narrow.Goals as goal

pub returns-in-Emptied-clause-used : goal.returns-in-Emptied-clause-used
returns-in-Emptied-clause-used g c = λ other. absurd (other refl)

pub returns-in-Emptied-clause-seen : goal.returns-in-Emptied-clause-seen
returns-in-Emptied-clause-seen g c = c.in_ok-propagate.ensures.emptied c.in-Emptied.is

pub returns-in_err-tell_now-in_default-clause-come : goal.returns-in_err-tell_now-in_default-clause-come
returns-in_err-tell_now-in_default-clause-come g c = come_further _ _ _ _ _ _ _ _ _ _ _ _ _ c.propagate.ensures.come c.tell_now.ensures.come

pub returns-in_ok-tell_now-in_default-clause-come : goal.returns-in_ok-tell_now-in_default-clause-come
returns-in_ok-tell_now-in_default-clause-come g c = come_further _ _ _ _ _ _ _ _ _ _ _ _ _ c.propagate.ensures.come c.tell_now.ensures.come

pub returns-in_ok-tell_now-in_default-clause-used : goal.returns-in_ok-tell_now-in_default-clause-used
returns-in_ok-tell_now-in_default-clause-used g c = λ still.
    in_then (Propagate ∷ []) _ _ _ _ _ _ c.propagate.ensures.come.sound.settled (c.in_ok-propagate.ensures.used c.in_default.not-Emptied) c.in_ok-tell_now-in_default.ensures.used

pub propagate-requires-clause-ready : goal.propagate-requires-clause-ready
propagate-requires-clause-ready g c = c.requires.ready.0

pub propagate-requires-clause-sound : goal.propagate-requires-clause-sound
propagate-requires-clause-sound g c = c.requires.ready.1

pub returns-in-Emptied-clause-come : goal.returns-in-Emptied-clause-come
returns-in-Emptied-clause-come g c = c.propagate.ensures.come

pub returns-in_err-propagate-clause-come : goal.returns-in_err-propagate-clause-come
returns-in_err-propagate-clause-come g c = c.propagate.ensures.come

pub tell_now-requires : goal.tell_now-requires
tell_now-requires g c = record { ready = (c.propagate.ensures.come.ready, c.propagate.ensures.come.sound) }

pub look_at-requires-clause-long : goal.look_at-requires-clause-long
look_at-requires-clause-long g c =
    let core = c.propagate.new.core in
    let formed = c.is_sound.ensures.reduced in
    ap length (c.whole.ensures.whole ∙ ap (λ (p : Program). p.integral) c.reduced-program.ensures) ∙ formed.integral ∙ sym (work_long core c.propagate.new.node formed c.propagate.ensures.come.ready.at_work) ∙ sym (ap length c.bounds.ensures)

pub look_at-requires-clause-columns : goal.look_at-requires-clause-columns
look_at-requires-clause-columns g c = grind (arith, common_steps)

pub returns-in_ok-tell_now-in_default-clause-seen : goal.returns-in_ok-tell_now-in_default-clause-seen
returns-in_ok-tell_now-in_default-clause-seen g c =
    let core = c.propagate.new.core in
    let node = c.propagate.new.node in
    seen_of core node c.look_at.result (look_entered core node c.look_at.result c.propagate.ensures.come.ready.at_work.region
    (subst (λ i. IsBoxLook i core.tree.work.box core.tree.work.choices c.look_at.result) (c.whole.ensures.whole ∙ ap (λ (p : Program). p.integral) c.reduced-program.ensures)
    (subst (λ b. IsBoxLook c.whole.result.now b core.tree.work.choices c.look_at.result) c.bounds.ensures
    (subst (λ o. IsBoxLook c.whole.result.now c.bounds.result.now o c.look_at.result) c.choices.ensures c.look_at.ensures))))

pub returns-in_err-propagate-clause-seen : goal.returns-in_err-propagate-clause-seen
returns-in_err-propagate-clause-seen g c = IfOk-from_err c.from_residual.result _ c.from_residual.ensures.0

pub returns-in_err-propagate-clause-used : goal.returns-in_err-propagate-clause-used
returns-in_err-propagate-clause-used g c = IfOk-from_err c.from_residual.result _ c.from_residual.ensures.0

pub returns-in_err-tell_now-in_default-clause-seen : goal.returns-in_err-tell_now-in_default-clause-seen
returns-in_err-tell_now-in_default-clause-seen g c = IfOk-from_err c.from_residual-in_err-tell_now-in_default.result _ c.from_residual-in_err-tell_now-in_default.ensures.0

pub returns-in_err-tell_now-in_default-clause-used : goal.returns-in_err-tell_now-in_default-clause-used
returns-in_err-tell_now-in_default-clause-used g c = IfOk-from_err c.from_residual-in_err-tell_now-in_default.result _ c.from_residual-in_err-tell_now-in_default.ensures.0
