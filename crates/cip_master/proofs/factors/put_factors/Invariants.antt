use Rattle.std.proofs.Common.{◌≡◌, drop}
use Rattle.cip_master.specs.CombinedFactors.{factors_put}
use Rattle.cip_master.proofs.factors.put_factors.Given as goal

abbrev pub invariant-loop-at : goal.invariant-loop-at
invariant-loop-at l = factors_put l.first (drop l.at l.rows) l.factors ≡ factors_put l.first l.rows l.fn.factors
