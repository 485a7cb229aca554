use Rattle.cip_main.proofs.Told as told
use Rattle.cip_main.proofs.laws.bounds_are_told.Goals as goal

pub returns : goal.returns
returns c = told.bounds_are_told
