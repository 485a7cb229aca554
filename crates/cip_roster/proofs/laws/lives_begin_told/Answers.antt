use Rattle.cip_roster.proofs.Beginning.{begun_lives}
use Rattle.cip_roster.proofs.laws.lives_begin_told.Goals as goal

pub returns : goal.returns
returns c = record { lives = begun_lives }
