use Rattle.cip_plugin.proofs.Hearing.{asked_once}
use Rattle.cip_plugin.proofs.laws.each_is_asked_once.Goals as goal

pub returns : goal.returns
returns c = record {
  once = asked_once;
}
