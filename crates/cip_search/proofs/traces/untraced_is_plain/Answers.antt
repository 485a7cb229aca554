use Rattle.std.proofs.Common.{refl}
use Rattle.cip_search.proofs.traces.untraced_is_plain.Goals as goal

pub returns : goal.returns
returns c = λ names figures. refl
