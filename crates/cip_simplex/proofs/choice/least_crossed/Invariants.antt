use Rattle.std.proofs.Common.{◌≡◌, None}
use Rattle.cip_bland.specs.Tables.{least}
use Rattle.cip_bland.specs.Rule as rule
use Rattle.cip_simplex.proofs.choice.least_crossed.Given as goal

abbrev pub invariant-loop-v : goal.invariant-loop-v
invariant-loop-v l = least l.v (rule.is_crossed l.dict) ≡ None
