use Rattle.cip_search.specs.TraceTexts.{traced_end}
use Rattle.cip_search.proofs.FrontTexts.{front_told}
use Rattle.cip_search.proofs.traces.figures_are_told.Goals as goal

pub returns : goal.returns
returns c = λ names figures other lines others p q a b e. front_told names figures other (traced_end lines) (traced_end others) p q a b e
