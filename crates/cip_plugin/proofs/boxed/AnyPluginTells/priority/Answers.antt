use Rattle.std.proofs.Common.{refl, arith}
use Rattle.std.proofs.lemmas.Grind.{common_steps}
use Rattle.cip_plugin.proofs.Objects.{lives_on}
use Rattle.cip_plugin.proofs.boxed.AnyPluginTells.priority.Goals as goal

pub widen-priority-in-EventHandler : goal.widen-priority-in-EventHandler
widen-priority-in-EventHandler c = grind (arith, common_steps)

pub widen-priority-in-ConsHandler : goal.widen-priority-in-ConsHandler
widen-priority-in-ConsHandler c = grind (arith, common_steps)

pub widen-priority-in-BranchRule : goal.widen-priority-in-BranchRule
widen-priority-in-BranchRule c = grind (arith, common_steps)

pub widen-priority-in-Heuristic : goal.widen-priority-in-Heuristic
widen-priority-in-Heuristic c = grind (arith, common_steps)

pub widen-priority-in-Pricer : goal.widen-priority-in-Pricer
widen-priority-in-Pricer c = grind (arith, common_steps)

pub widen-priority-in-Propagator : goal.widen-priority-in-Propagator
widen-priority-in-Propagator c = grind (arith, common_steps)

pub widen-priority : goal.widen-priority
widen-priority c = grind (arith, common_steps)

pub priority-requires : goal.priority-requires
priority-requires g c = λ k. (refl, lives_on k.0 _)

pub priority-requires-in-Propagator : goal.priority-requires-in-Propagator
priority-requires-in-Propagator g c = λ k. (refl, lives_on k.0 _)

pub priority-requires-in-Pricer : goal.priority-requires-in-Pricer
priority-requires-in-Pricer g c = λ k. (refl, lives_on k.0 _)

pub priority-requires-in-Heuristic : goal.priority-requires-in-Heuristic
priority-requires-in-Heuristic g c = λ k. (refl, lives_on k.0 _)

pub priority-requires-in-BranchRule : goal.priority-requires-in-BranchRule
priority-requires-in-BranchRule g c = λ k. (refl, lives_on k.0 _)

pub priority-requires-in-EventHandler : goal.priority-requires-in-EventHandler
priority-requires-in-EventHandler g c = λ k. (refl, lives_on k.0 _)

pub priority-requires-in-ConsHandler : goal.priority-requires-in-ConsHandler
priority-requires-in-ConsHandler g c = λ k. (refl, lives_on k.0 _)
