use Rattle.cip_simplex.proofs.StartLaws as laws
use Rattle.cip_simplex.proofs.laws.starts_are_right.Goals as goal

pub returns : goal.returns
returns c = laws.starts_are_right
