use Rattle.cip_text_rules.proofs.Owned.{owners_are_right}
use Rattle.cip_text_rules.proofs.block_steps.owners_are_right.Goals as goal

pub returns : goal.returns
returns c = owners_are_right
