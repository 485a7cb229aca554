use Rattle.std.proofs.Common.{◌≡◌, drop}
use Rattle.cip_model.specs.Least.{least_cost_from}
use Rattle.cip_model.proofs.programs.Program.box_bound.Given as goal

abbrev pub invariant-loop-at : goal.invariant-loop-at
invariant-loop-at l = least_cost_from l.sum (drop l.at l.costs) (drop l.at l.sides) ≡ least_cost_from l.initial.sum l.costs l.sides
