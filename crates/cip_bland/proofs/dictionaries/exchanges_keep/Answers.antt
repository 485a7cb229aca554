use Rattle.cip_bland.proofs.Kept as law
use Rattle.cip_bland.proofs.dictionaries.exchanges_keep.Goals as goal

pub returns : goal.returns
returns c = law.exchanges_keep
