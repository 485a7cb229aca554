use Rattle.cip_text_rules.proofs.Few.{texts_fit}
use Rattle.cip_text_rules.proofs.mps_texts.programs_are_well_formed.Goals as goal

pub returns : goal.returns
returns c = texts_fit
