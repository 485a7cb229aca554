use Rattle.cip_search.proofs.TraceTexts.{trace_told}
use Rattle.cip_search.proofs.traces.trace_is_told.Goals as goal

pub returns : goal.returns
returns c = trace_told
