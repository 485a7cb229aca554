use Rattle.cip_text_rules.proofs.TakenTexts.{going_text}
use Rattle.cip_text_rules.proofs.lp_taken.taken_texts_come_out.Goals as goal

pub returns : goal.returns
returns c = going_text c.lp_texts_are_read.ensures
