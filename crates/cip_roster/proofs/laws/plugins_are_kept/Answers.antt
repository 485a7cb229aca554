use Rattle.cip_roster.proofs.Sounding.{run_count}
use Rattle.cip_roster.proofs.laws.plugins_are_kept.Goals as goal

pub returns : goal.returns
returns c = record { count = run_count }
