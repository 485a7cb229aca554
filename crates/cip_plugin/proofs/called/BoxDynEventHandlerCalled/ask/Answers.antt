use Rattle.std.proofs.Common.{refl, rules, arith}
use Rattle.std.proofs.lemmas.Grind.{common_steps}
use Rattle.cip_plugin.proofs.Objects.{lives_on, heard_same}
use Rattle.cip_plugin.proofs.Asked.{event_handler_is_asked}
use Rattle.cip_plugin.proofs.called.BoxDynEventHandlerCalled.ask.Goals as goal

pub returns-in-Ok : goal.returns-in-Ok
returns-in-Ok g c =
    rw c.in-OnEvent.is (heard_same (λ i x. (goal.EventHandler-dyn g (i, x)).Plugin.told x) _
    (c.args.self.now.vtable, c.args.self.now.value) (search rules) c.in-Ok.ensures)

pub returns-in-Err : goal.returns-in-Err
returns-in-Err g c =
    rw c.in-OnEvent.is (heard_same (λ i x. (goal.EventHandler-dyn g (i, x)).Plugin.told x) _
    (c.args.self.now.vtable, c.args.self.now.value) (search rules) c.in-Err.ensures)

pub unreachable-requires : goal.unreachable-requires
unreachable-requires g c = event_handler_is_asked c.args.question c.requires c.in_default.not-OnEvent

pub widen_unique-on_event : goal.widen_unique-on_event
widen_unique-on_event g c = grind (arith, common_steps)

pub back_relent_following-self : goal.back_relent_following-self
back_relent_following-self g c = grind (arith, common_steps)

pub unreachable-unreachable : goal.unreachable-unreachable
unreachable-unreachable g c = grind (arith, common_steps)

pub on_event-requires : goal.on_event-requires
on_event-requires g c = λ k. (refl, lives_on k.0 _)
