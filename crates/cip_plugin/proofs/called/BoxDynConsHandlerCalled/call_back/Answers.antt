use Rattle.std.proofs.Common.{refl, rules, arith}
use Rattle.std.proofs.lemmas.Grind.{common_steps}
use Rattle.cip_plugin.proofs.Objects.{lives_on, heard_same}
use Rattle.cip_plugin.proofs.called.BoxDynConsHandlerCalled.call_back.Goals as goal

pub returns-in-Init : goal.returns-in-Init
returns-in-Init g c =
    rw c.in-Init.is (heard_same (λ i x. (goal.ConsHandler-dyn g (i, x)).Plugin.told x) _
    (c.args.self.now.vtable, c.args.self.now.value) (search rules) c.init.ensures)

pub returns-in-InitSolve : goal.returns-in-InitSolve
returns-in-InitSolve g c =
    rw c.in-InitSolve.is (heard_same (λ i x. (goal.ConsHandler-dyn g (i, x)).Plugin.told x) _
    (c.args.self.now.vtable, c.args.self.now.value) (search rules) c.init_solve.ensures)

pub returns-in-ExitSolve : goal.returns-in-ExitSolve
returns-in-ExitSolve g c =
    rw c.in-ExitSolve.is (heard_same (λ i x. (goal.ConsHandler-dyn g (i, x)).Plugin.told x) _
    (c.args.self.now.vtable, c.args.self.now.value) (search rules) c.exit_solve.ensures)

pub returns-in-Exit : goal.returns-in-Exit
returns-in-Exit g c =
    rw c.in-Exit.is (heard_same (λ i x. (goal.ConsHandler-dyn g (i, x)).Plugin.told x) _
    (c.args.self.now.vtable, c.args.self.now.value) (search rules) c.exit.ensures)

pub widen_unique-init_solve : goal.widen_unique-init_solve
widen_unique-init_solve g c = grind (arith, common_steps)

pub widen_unique-exit : goal.widen_unique-exit
widen_unique-exit g c = grind (arith, common_steps)

pub widen_unique-init : goal.widen_unique-init
widen_unique-init g c = grind (arith, common_steps)

pub widen_unique-exit_solve : goal.widen_unique-exit_solve
widen_unique-exit_solve g c = grind (arith, common_steps)

pub back_relent_following-self-in-Exit : goal.back_relent_following-self-in-Exit
back_relent_following-self-in-Exit g c = grind (arith, common_steps)

pub back_relent_following-self-in-ExitSolve : goal.back_relent_following-self-in-ExitSolve
back_relent_following-self-in-ExitSolve g c = grind (arith, common_steps)

pub back_relent_following-self-in-InitSolve : goal.back_relent_following-self-in-InitSolve
back_relent_following-self-in-InitSolve g c = grind (arith, common_steps)

pub back_relent_following-self : goal.back_relent_following-self
back_relent_following-self g c = grind (arith, common_steps)

pub init-requires : goal.init-requires
init-requires g c = λ k. (refl, lives_on k.0 _)

pub init_solve-requires : goal.init_solve-requires
init_solve-requires g c = λ k. (refl, lives_on k.0 _)

pub exit-requires : goal.exit-requires
exit-requires g c = λ k. (refl, lives_on k.0 _)

pub exit_solve-requires : goal.exit_solve-requires
exit_solve-requires g c = λ k. (refl, lives_on k.0 _)
