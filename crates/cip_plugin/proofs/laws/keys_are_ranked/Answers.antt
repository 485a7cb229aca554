use Rattle.std.proofs.Common.{refl}
use Rattle.cip_plugin.proofs.laws.keys_are_ranked.Goals as goal

pub returns : goal.returns
returns c = record {
  same = λ a b. refl;
}
