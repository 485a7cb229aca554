use Rattle.std.proofs.Common.{refl}
use Rattle.cip_search.proofs.traces.trace_examples.Goals as goal

pub returns : goal.returns
returns c = record { init = refl; dropped = refl; refused = refl; behind = refl }
