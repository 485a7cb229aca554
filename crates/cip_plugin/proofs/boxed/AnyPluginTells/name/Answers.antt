use Rattle.std.proofs.Common.{refl, arith}
use Rattle.std.proofs.lemmas.Grind.{common_steps}
use Rattle.cip_plugin.proofs.Objects.{lives_on}
use Rattle.cip_plugin.proofs.boxed.AnyPluginTells.name.Goals as goal

pub widen-name-in-EventHandler : goal.widen-name-in-EventHandler
widen-name-in-EventHandler c = grind (arith, common_steps)

pub widen-name-in-ConsHandler : goal.widen-name-in-ConsHandler
widen-name-in-ConsHandler c = grind (arith, common_steps)

pub widen-name-in-BranchRule : goal.widen-name-in-BranchRule
widen-name-in-BranchRule c = grind (arith, common_steps)

pub widen-name-in-Heuristic : goal.widen-name-in-Heuristic
widen-name-in-Heuristic c = grind (arith, common_steps)

pub widen-name-in-Pricer : goal.widen-name-in-Pricer
widen-name-in-Pricer c = grind (arith, common_steps)

pub widen-name-in-Propagator : goal.widen-name-in-Propagator
widen-name-in-Propagator c = grind (arith, common_steps)

pub widen-name : goal.widen-name
widen-name c = grind (arith, common_steps)

pub name-requires : goal.name-requires
name-requires g c = λ k. (refl, lives_on k.0 _)

pub name-requires-in-Propagator : goal.name-requires-in-Propagator
name-requires-in-Propagator g c = λ k. (refl, lives_on k.0 _)

pub name-requires-in-Pricer : goal.name-requires-in-Pricer
name-requires-in-Pricer g c = λ k. (refl, lives_on k.0 _)

pub name-requires-in-Heuristic : goal.name-requires-in-Heuristic
name-requires-in-Heuristic g c = λ k. (refl, lives_on k.0 _)

pub name-requires-in-BranchRule : goal.name-requires-in-BranchRule
name-requires-in-BranchRule g c = λ k. (refl, lives_on k.0 _)

pub name-requires-in-EventHandler : goal.name-requires-in-EventHandler
name-requires-in-EventHandler g c = λ k. (refl, lives_on k.0 _)

pub name-requires-in-ConsHandler : goal.name-requires-in-ConsHandler
name-requires-in-ConsHandler g c = λ k. (refl, lives_on k.0 _)
