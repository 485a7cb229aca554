use Rattle.cip_plugin.proofs.Running.{Runs-append, run_lives}
use Rattle.cip_plugin.proofs.laws.lives_stay_told.Goals as goal

pub returns : goal.returns
returns c = record {
  together = Runs-append;
  lives = run_lives;
}
