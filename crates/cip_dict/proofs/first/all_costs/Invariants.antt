use Rattle.cip_dict.proofs.FirstCosts.{AreCosts}
use Rattle.cip_dict.proofs.first.all_costs.Given as goal

abbrev pub invariant-loop-k : goal.invariant-loop-k
invariant-loop-k l = AreCosts l.costs l.n l.k l.all
