use Rattle.cip_lagrange.proofs.Placing.{ArePlacesTo}
use Rattle.cip_lagrange.proofs.places.places_of.Given as goal

abbrev pub invariant-loop-owner : goal.invariant-loop-owner
invariant-loop-owner l = ArePlacesTo l.count l.owners l.owner-index l.counts.items l.places.items
