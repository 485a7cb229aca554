use Rattle.std.proofs.Common.{◌≡◌, None}
use Rattle.cip_bland.specs.Tables.{least}
use Rattle.cip_simplex.specs.Starts as starts
use Rattle.cip_simplex.proofs.start_moves.entering_move.Given as goal

abbrev pub invariant-loop-v : goal.invariant-loop-v
invariant-loop-v l = least l.v (starts.may_leave l.start l.dict l.k) ≡ None
