use Rattle.cip_text.proofs.Streams.{stay}
use Rattle.cip_text_rules.specs.BlockRules.{block_reading}
use Rattle.cip_text_rules.specs.BlockSteps.{block_steps}
use Rattle.cip_blocks.proofs.laws.known_block_faults_stay.Goals as goal

pub returns : goal.returns
returns c = λ program once. stay (block_reading program) (block_steps program) (c.block_faults_of_ended_lines.ensures program once) (c.block_faults_stay.ensures program once)
