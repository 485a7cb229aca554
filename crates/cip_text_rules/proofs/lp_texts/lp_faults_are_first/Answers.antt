use Rattle.cip_text_rules.proofs.LineEnded.{faults_before_ends}
use Rattle.cip_text_rules.specs.LpOutcome.{is_end, lp_tokens}
use Rattle.cip_text_rules.proofs.lp_texts.lp_faults_are_first.Goals as goal

pub returns : goal.returns
returns c = faults_before_ends is_end lp_tokens
