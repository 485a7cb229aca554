use Rattle.cip_lagrange.proofs.Ready.{AreFittingTo}
use Rattle.cip_lagrange.proofs.scratches.rooms.Given as goal

abbrev pub invariant-loop-part : goal.invariant-loop-part
invariant-loop-part l = AreFittingTo l.part-index l.parts l.rooms.items
