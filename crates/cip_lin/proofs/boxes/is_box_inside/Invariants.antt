use Rattle.std.proofs.Common.{◌≡◌, drop}
use Rattle.cip_problem.specs.Box.{box_inside}
use Rattle.cip_lin.proofs.boxes.is_box_inside.Given as goal

abbrev pub invariant-loop-at : goal.invariant-loop-at
invariant-loop-at l = box_inside (drop l.at l.own) (drop l.at l.outer) ≡ box_inside l.own l.outer
