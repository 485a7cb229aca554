use Rattle.cip_text_rules.proofs.LineOutcomes.{one_outcome}
use Rattle.cip_text_rules.specs.LpOutcome.{lp_reading}
use Rattle.cip_text_rules.proofs.lp_texts.lp_one_outcome.Goals as goal

pub returns : goal.returns
returns c = one_outcome lp_reading
