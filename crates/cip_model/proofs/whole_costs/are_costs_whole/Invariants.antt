use Rattle.std.proofs.Common.{ℕ, ◌<◌, false, get_or}
use Rattle.cip_rational.specs.Rational.{zeroℚ}
use Rattle.cip_problem.specs.Cuts.{CanRoundAt}
use Rattle.cip_model.proofs.whole_costs.are_costs_whole.Given as goal

abbrev pub invariant-loop-at : goal.invariant-loop-at
invariant-loop-at l = (k : ℕ) → k < l.at → CanRoundAt (get_or l.whole k false) (get_or l.costs k zeroℚ)
