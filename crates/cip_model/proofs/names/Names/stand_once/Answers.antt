use Rattle.cip_model.specs.Keys.{names_of}
use Rattle.cip_model.proofs.NamePlaces.{once}
use Rattle.cip_model.proofs.names.Names.stand_once.Goals as goal

pub returns : goal.returns
returns c = rw (← c.self.view_is) (once (names_of c.self.inside) c.self.invariant.apart)
