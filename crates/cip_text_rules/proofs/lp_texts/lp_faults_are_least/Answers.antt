use Rattle.cip_text_rules.proofs.Quiet.{kept, least_broken, least_least}
use Rattle.cip_text_rules.specs.LpFacts.{event_rules}
use Rattle.cip_text_rules.proofs.LpEvents.{rules_rise}
use Rattle.cip_text_rules.proofs.lp_texts.lp_faults_are_least.Goals as goal

pub returns : goal.returns
returns c = record {
  broken = λ facts event kind e. least_broken (event_rules facts event) kind e;
  least = λ facts event kind e. least_least 0 (event_rules facts event) kind (rules_rise facts event) e;
  none = λ facts event e. kept (event_rules facts event) e;
}
