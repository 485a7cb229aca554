use Rattle.std.proofs.Common.{◌≡◌, ◌-◌}
use Rattle.cip_bland.specs.Dictionary.{size}
use Rattle.cip_bland.specs.MoveList.{run}
use Rattle.cip_simplex.specs.Advances.{run_behind}
use Rattle.cip_simplex.proofs.runs.make_moves.Given as goal

abbrev pub invariant-loop-made : goal.invariant-loop-made
invariant-loop-made l = record {
  variables : size l.dict ≡ size l.fn.dict;
  so_far : run_behind l.moves.items (run (l.limit - l._made) l.dict) ≡ run_behind l.fn.moves.items (run l.limit l.fn.dict);
}
