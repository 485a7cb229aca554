use Rattle.cip_solve.proofs.Lives as lives
use Rattle.cip_solve.proofs.kit_lives.lives_are_whole.Goals as goal

pub returns : goal.returns
returns c = lives.lives_are_whole
