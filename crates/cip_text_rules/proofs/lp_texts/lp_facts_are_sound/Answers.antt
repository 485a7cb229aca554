use Rattle.cip_text_rules.proofs.LpFits.{first_sound, event_kept}
use Rattle.cip_text_rules.proofs.lp_texts.lp_facts_are_sound.Goals as goal

pub returns : goal.returns
returns c = record { first = first_sound; later = event_kept }
