use Rattle.cip_plugin.proofs.Running.{run_stays, run_told, run_closed}
use Rattle.cip_plugin.proofs.laws.runs_are_told.Goals as goal

pub returns : goal.returns
returns c = record {
  stays = run_stays;
  told = run_told;
  closed = run_closed;
}
