use Rattle.cip_text_rules.proofs.SoundState.{sound_first, sound_taken}
use Rattle.cip_text_rules.proofs.step_laws.states_are_sound.Goals as goal

pub returns : goal.returns
returns c = record { first = sound_first; later = sound_taken }
