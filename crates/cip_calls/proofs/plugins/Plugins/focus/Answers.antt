use Rattle.std.proofs.lemmas.Result.{IfOk-from_err}
use Rattle.std.proofs.lemmas.Grind.{common_steps}
use Rattle.std.proofs.Common.{◌≡◌, ◌∷◌, [], ◌++◌, ap, ◌∙◌, arith}
use Rattle.cip_events.specs.Events.{event_at}
use Rattle.cip_events.specs.declared.events.Event.{Event}
use Rattle.cip_events.specs.declared.events.EventKind.TheVariants.{NodeFocused}
use Rattle.cip_calls.proofs.Serving.{focus_used, on_ok}
use Rattle.cip_calls.proofs.plugins.Plugins.focus.Goals as goal

pub returns-clause-used : goal.returns-clause-used
returns-clause-used g c =
    let event = event_at c.args.node.now.number NodeFocused in
    let same : c.at.result ≡ event = c.at.ensures ∙ ap (λ n. event_at n NodeFocused) c.id.ensures in
    on_ok c.tell.result _ _ (focus_used c.has_none.result c.args.self.now.queue c.put.new.queue event _ _ _ _ c.has_none.ensures
    (λ f. c.in_ok-put.ensures f ∙ ap (λ (x : Event). c.args.self.now.queue ++ x ∷ []) same)) c.tell.ensures.used

pub tell-requires : goal.tell-requires
tell-requires g c = record { sound = c.requires.sound }

pub returns-clause-sound : goal.returns-clause-sound
returns-clause-sound g c = grind (arith, common_steps)

pub returns-clause-frame : goal.returns-clause-frame
returns-clause-frame g c = grind (arith, common_steps)

pub returns-clause-run : goal.returns-clause-run
returns-clause-run g c = grind (arith, common_steps)

pub returns-in_err-put-clause-run : goal.returns-in_err-put-clause-run
returns-in_err-put-clause-run g c = grind (arith, common_steps)

pub returns-in_err-put-clause-frame : goal.returns-in_err-put-clause-frame
returns-in_err-put-clause-frame g c = grind (arith, common_steps)

pub returns-in_err-put-clause-used : goal.returns-in_err-put-clause-used
returns-in_err-put-clause-used g c = IfOk-from_err c.from_residual.result _ c.from_residual.ensures.0

pub returns-in_err-put-clause-sound : goal.returns-in_err-put-clause-sound
returns-in_err-put-clause-sound g c = c.requires.sound
