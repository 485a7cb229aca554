use Rattle.cip_search.proofs.SelfLines.{self_told}
use Rattle.cip_search.proofs.traces.self_is_told.Goals as goal

pub returns : goal.returns
returns c = self_told
