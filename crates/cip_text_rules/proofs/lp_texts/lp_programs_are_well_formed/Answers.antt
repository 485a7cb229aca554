use Rattle.cip_text_rules.proofs.LpTexts.{texts_fit}
use Rattle.cip_text_rules.proofs.lp_texts.lp_programs_are_well_formed.Goals as goal

pub returns : goal.returns
returns c = texts_fit
