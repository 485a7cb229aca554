use Rattle.cip_bland.proofs.Kept as law
use Rattle.cip_bland.proofs.dictionaries.flips_keep.Goals as goal

pub returns : goal.returns
returns c = law.flips_keep
