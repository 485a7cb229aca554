use Rattle.cip_text_rules.proofs.LineOutcomes.{results_are_described}
use Rattle.cip_text_rules.specs.BlockRules.{block_reading}
use Rattle.cip_text_rules.proofs.blocks.blocks_are_described.Goals as goal

pub returns : goal.returns
returns c = λ program. results_are_described (block_reading program)
