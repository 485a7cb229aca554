use Rattle.std.proofs.Common.{refl, rules, arith}
use Rattle.std.proofs.lemmas.Grind.{common_steps}
use Rattle.cip_plugin.proofs.Objects.{lives_on, heard_same}
use Rattle.cip_plugin.proofs.Asked.{propagator_is_asked}
use Rattle.cip_plugin.proofs.called.BoxDynPropagatorCalled.ask.Goals as goal

pub returns-in-Ok : goal.returns-in-Ok
returns-in-Ok g c =
    rw c.in-Propagate.is (heard_same (λ i x. (goal.Propagator-dyn g (i, x)).Plugin.told x) _
    (c.args.self.now.vtable, c.args.self.now.value) (search rules) c.in-Ok.ensures)

pub returns-in-Err : goal.returns-in-Err
returns-in-Err g c =
    rw c.in-Propagate.is (heard_same (λ i x. (goal.Propagator-dyn g (i, x)).Plugin.told x) _
    (c.args.self.now.vtable, c.args.self.now.value) (search rules) c.in-Err.ensures)

pub unreachable-requires : goal.unreachable-requires
unreachable-requires g c = propagator_is_asked c.args.question c.requires c.in_default.not-Propagate

pub widen_unique-propagate : goal.widen_unique-propagate
widen_unique-propagate g c = grind (arith, common_steps)

pub back_relent_following-self : goal.back_relent_following-self
back_relent_following-self g c = grind (arith, common_steps)

pub unreachable-unreachable : goal.unreachable-unreachable
unreachable-unreachable g c = grind (arith, common_steps)

pub propagate-requires : goal.propagate-requires
propagate-requires g c = λ k. (refl, lives_on k.0 _)
