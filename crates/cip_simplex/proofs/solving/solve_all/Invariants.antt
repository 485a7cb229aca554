use Rattle.std.proofs.Common.{◌≡◌, []}
use Rattle.cip_bland.specs.NoRepeat.{whole_run, moves_left}
use Rattle.cip_bland.specs.Statements.{IsStateOf}
use Rattle.cip_simplex.specs.Advances.{run_behind}
use Rattle.cip_simplex.specs.LpShape.{IsSolvable}
use Rattle.cip_simplex.proofs.solving.solve_all.Given as goal

abbrev pub invariant-steps : goal.invariant-steps
invariant-steps l = record {
  solvable : IsSolvable l.fn.lp;
  state : IsStateOf l.fn.lp l.dict;
  so_far : run_behind l.moves.items (whole_run l.dict) ≡ run_behind [] (whole_run l.fn.dict);
}

abbrev pub decreases-steps : goal.decreases-steps
decreases-steps l = moves_left l.dict
