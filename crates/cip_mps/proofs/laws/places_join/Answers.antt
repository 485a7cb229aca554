use Rattle.cip_mps.proofs.TakenLaws.{places}
use Rattle.cip_mps.proofs.laws.places_join.Goals as goal

pub returns : goal.returns
returns c = places
