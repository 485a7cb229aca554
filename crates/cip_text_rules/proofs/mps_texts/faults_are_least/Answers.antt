use Rattle.cip_text_rules.specs.MpsRules.{rules}
use Rattle.cip_text_rules.proofs.Quiet.{kept, least_broken, least_least, rules_rise}
use Rattle.cip_text_rules.proofs.mps_texts.faults_are_least.Goals as goal

pub returns : goal.returns
returns c = record {
  broken = λ facts now kind e. least_broken (rules facts now) kind e;
  least = λ facts now kind e. least_least 0 (rules facts now) kind (rules_rise facts now) e;
  none = λ facts now e. kept (rules facts now) e;
}
