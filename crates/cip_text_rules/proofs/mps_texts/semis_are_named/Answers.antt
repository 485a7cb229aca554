use Rattle.cip_text_rules.proofs.SemiNamed.{semis_named}
use Rattle.cip_text_rules.proofs.mps_texts.semis_are_named.Goals as goal

pub returns : goal.returns
returns c = semis_named
