use Rattle.cip_text_rules.proofs.BlockLaws.{blocks_are_apart}
use Rattle.cip_text_rules.proofs.blocks.blocks_are_apart.Goals as goal

pub returns : goal.returns
returns c = blocks_are_apart
