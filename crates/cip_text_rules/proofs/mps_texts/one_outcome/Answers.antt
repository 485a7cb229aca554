use Rattle.cip_text_rules.proofs.LineOutcomes.{one_outcome}
use Rattle.cip_text_rules.specs.MpsOutcome.{mps_reading}
use Rattle.cip_text_rules.proofs.mps_texts.one_outcome.Goals as goal

pub returns : goal.returns
returns c = one_outcome mps_reading
