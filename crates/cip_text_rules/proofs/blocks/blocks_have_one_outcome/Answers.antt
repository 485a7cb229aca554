use Rattle.cip_text_rules.proofs.LineOutcomes.{one_outcome}
use Rattle.cip_text_rules.specs.BlockRules.{block_reading}
use Rattle.cip_text_rules.proofs.blocks.blocks_have_one_outcome.Goals as goal

pub returns : goal.returns
returns c = λ program. one_outcome (block_reading program)
