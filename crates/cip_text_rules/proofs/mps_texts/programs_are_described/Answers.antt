use Rattle.cip_text_rules.proofs.LineEnded.{results_at_ends}
use Rattle.cip_text_rules.specs.MpsOutcome.{is_last, mps_records}
use Rattle.cip_text_rules.proofs.mps_texts.programs_are_described.Goals as goal

pub returns : goal.returns
returns c = results_at_ends is_last mps_records
