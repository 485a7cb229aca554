use Rattle.cip_text_rules.proofs.LineEnded.{faults_before_ends}
use Rattle.cip_text_rules.specs.MpsOutcome.{is_last, mps_records}
use Rattle.cip_text_rules.proofs.mps_texts.faults_are_first.Goals as goal

pub returns : goal.returns
returns c = faults_before_ends is_last mps_records
