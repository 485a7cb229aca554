use Rattle.cip_lagrange.proofs.Whole.{AreBuiltTo}
use Rattle.cip_lagrange.proofs.building.subproblems.Given as goal

abbrev pub invariant-loop-block : goal.invariant-loop-block
invariant-loop-block l = AreBuiltTo l.program l.places l.blocks l.block l.parts.items
