use Rattle.cip_text_rules.proofs.Sound.{sound_first, sound_later}
use Rattle.cip_text_rules.proofs.block_steps.block_states_are_sound.Goals as goal

pub returns : goal.returns
returns c = record { first = sound_first; later = sound_later }
