use Rattle.cip_text_rules.proofs.PointSame.{first_places, later_places}
use Rattle.cip_text_rules.proofs.point_steps.point_states_are_sound.Goals as goal

pub returns : goal.returns
returns c = record { first = first_places; later = later_places }
