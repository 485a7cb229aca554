use Rattle.cip_search.proofs.Moving.{falls, rises}
use Rattle.cip_search.proofs.reduction_laws.columns_move.Goals as goal

pub returns : goal.returns
returns c = record { falls = falls; rises = rises }
