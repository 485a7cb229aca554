use Rattle.cip_text_rules.proofs.LineSame.{texts_are_read}
use Rattle.cip_text_rules.specs.BlockRules.{block_reading}
use Rattle.cip_text_rules.specs.BlockSteps.{block_steps}
use Rattle.cip_text_rules.proofs.BlockSame.{Holds, stands}
use Rattle.cip_text_rules.proofs.block_steps.blocks_are_read.Goals as goal

pub returns : goal.returns
returns c = λ program d. texts_are_read (block_reading program) (block_steps program) (Holds program) (stands program d)
