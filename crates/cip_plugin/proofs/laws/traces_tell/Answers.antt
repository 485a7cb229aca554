use Rattle.cip_plugin.proofs.Tracing.{run_tells}
use Rattle.cip_plugin.proofs.laws.traces_tell.Goals as goal

pub returns : goal.returns
returns c = record {
  told = run_tells;
}
