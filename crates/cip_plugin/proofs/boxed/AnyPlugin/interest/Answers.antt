use Rattle.std.proofs.Common.{refl, arith}
use Rattle.std.proofs.lemmas.Grind.{common_steps}
use Rattle.cip_plugin.proofs.Objects.{lives_on}
use Rattle.cip_plugin.proofs.boxed.AnyPlugin.interest.Goals as goal

pub widen-interest : goal.widen-interest
widen-interest c = grind (arith, common_steps)

pub interest-requires : goal.interest-requires
interest-requires g c = λ k. (refl, lives_on k.0 _)
