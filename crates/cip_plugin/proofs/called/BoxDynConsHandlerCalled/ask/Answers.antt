use Rattle.std.proofs.Common.{refl, rules, arith}
use Rattle.std.proofs.lemmas.Grind.{common_steps}
use Rattle.cip_plugin.proofs.Objects.{lives_on, heard_same}
use Rattle.cip_plugin.proofs.Asked.{cons_handler_is_asked}
use Rattle.cip_plugin.proofs.called.BoxDynConsHandlerCalled.ask.Goals as goal

pub returns-in-Ok : goal.returns-in-Ok
returns-in-Ok g c =
    rw c.in-Enforce.is (heard_same (λ i x. (goal.ConsHandler-dyn g (i, x)).Plugin.told x) _
    (c.args.self.now.vtable, c.args.self.now.value) (search rules) c.in-Ok.ensures)

pub returns-in-Err : goal.returns-in-Err
returns-in-Err g c =
    rw c.in-Enforce.is (heard_same (λ i x. (goal.ConsHandler-dyn g (i, x)).Plugin.told x) _
    (c.args.self.now.vtable, c.args.self.now.value) (search rules) c.in-Err.ensures)

pub returns-in-Ok-separate : goal.returns-in-Ok-separate
returns-in-Ok-separate g c =
    rw c.in-Separate.is (heard_same (λ i x. (goal.ConsHandler-dyn g (i, x)).Plugin.told x) _
    (c.args.self.now.vtable, c.args.self.now.value) (search rules) c.in-Ok-separate.ensures)

pub returns-in-Err-separate : goal.returns-in-Err-separate
returns-in-Err-separate g c =
    rw c.in-Separate.is (heard_same (λ i x. (goal.ConsHandler-dyn g (i, x)).Plugin.told x) _
    (c.args.self.now.vtable, c.args.self.now.value) (search rules) c.in-Err-separate.ensures)

pub returns-in-Ok-propagate : goal.returns-in-Ok-propagate
returns-in-Ok-propagate g c =
    rw c.in-Propagate.is (heard_same (λ i x. (goal.ConsHandler-dyn g (i, x)).Plugin.told x) _
    (c.args.self.now.vtable, c.args.self.now.value) (search rules) c.in-Ok-propagate.ensures)

pub returns-in-Err-propagate : goal.returns-in-Err-propagate
returns-in-Err-propagate g c =
    rw c.in-Propagate.is (heard_same (λ i x. (goal.ConsHandler-dyn g (i, x)).Plugin.told x) _
    (c.args.self.now.vtable, c.args.self.now.value) (search rules) c.in-Err-propagate.ensures)

pub unreachable-requires : goal.unreachable-requires
unreachable-requires g c =
    cons_handler_is_asked c.args.question c.requires c.in_default.not-Enforce c.in_default.not-Separate
    c.in_default.not-Propagate

pub widen_unique-propagate : goal.widen_unique-propagate
widen_unique-propagate g c = grind (arith, common_steps)

pub widen_unique-separate : goal.widen_unique-separate
widen_unique-separate g c = grind (arith, common_steps)

pub widen_unique-enforce : goal.widen_unique-enforce
widen_unique-enforce g c = grind (arith, common_steps)

pub back_relent_following-self-in-Propagate : goal.back_relent_following-self-in-Propagate
back_relent_following-self-in-Propagate g c = grind (arith, common_steps)

pub back_relent_following-self-in-Separate : goal.back_relent_following-self-in-Separate
back_relent_following-self-in-Separate g c = grind (arith, common_steps)

pub back_relent_following-self : goal.back_relent_following-self
back_relent_following-self g c = grind (arith, common_steps)

pub unreachable-unreachable : goal.unreachable-unreachable
unreachable-unreachable g c = grind (arith, common_steps)

pub enforce-requires : goal.enforce-requires
enforce-requires g c = λ k. (refl, lives_on k.0 _)

pub separate-requires : goal.separate-requires
separate-requires g c = λ k. (refl, lives_on k.0 _)

pub propagate-requires : goal.propagate-requires
propagate-requires g c = λ k. (refl, lives_on k.0 _)
