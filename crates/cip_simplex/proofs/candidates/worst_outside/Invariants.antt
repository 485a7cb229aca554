use Rattle.cip_bland.specs.Rule.{is_outside}
use Rattle.cip_simplex.specs.FreeMoves.{IsFound}
use Rattle.cip_simplex.proofs.candidates.worst_outside.Given as goal

abbrev pub invariant-loop-v : goal.invariant-loop-v
invariant-loop-v l = IsFound (is_outside l.dict) l.v l.worst
