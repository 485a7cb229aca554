use Rattle.cip_text_rules.proofs.LineOutcomes.{faults_are_first}
use Rattle.cip_text_rules.specs.BlockRules.{block_reading}
use Rattle.cip_text_rules.proofs.blocks.block_faults_are_first.Goals as goal

pub returns : goal.returns
returns c = λ program. faults_are_first (block_reading program)
