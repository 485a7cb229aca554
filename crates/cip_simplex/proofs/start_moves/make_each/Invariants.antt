use Rattle.std.proofs.Common.{◌≡◌, cond, None}
use Rattle.cip_bland.specs.Dictionary.{size}
use Rattle.cip_simplex.specs.Starts.{begun_through, flipping_move, entering_move}
use Rattle.cip_simplex.proofs.start_moves.make_each.Given as goal

abbrev pub invariant-loop-v : goal.invariant-loop-v
invariant-loop-v l = record {
  variables : size l.dict ≡ size l.fn.dict;
  made : begun_through l.v (cond l.flips (flipping_move l.start) (entering_move l.start)) (record { moves = l.fn.moves.items; last = l.fn.dict; wide = None })
      ≡ record { moves = l.moves.items; last = l.dict; wide = None };
}
