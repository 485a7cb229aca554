use Rattle.std.proofs.lemmas.Grind.{common_steps}
use Rattle.std.proofs.Common.{arith}
use Rattle.std.proofs.lemmas.Nat.Gcd.{IsGcd-from_mod, IsGcd-swap}
use Rattle.cip_frac.proofs.gcd.narrowed.Goals as goal

pub returns-then-a-b-clause-same : goal.returns-then-a-b-clause-same
returns-then-a-b-clause-same c g h = IsGcd-from_mod _ _ _ h

pub returns-then-b-a-clause-same : goal.returns-then-b-a-clause-same
returns-then-b-a-clause-same c g h = IsGcd-swap _ _ _ (IsGcd-from_mod _ _ _ h)

pub returns-then-b-a-clause-some : goal.returns-then-b-a-clause-some
returns-then-b-a-clause-some c = grind (arith, common_steps)

pub returns-else-b-a-clause-some : goal.returns-else-b-a-clause-some
returns-else-b-a-clause-some c = grind (arith, common_steps)

pub returns-then-a-b-clause-some : goal.returns-then-a-b-clause-some
returns-then-a-b-clause-some c = grind (arith, common_steps)

pub nonzero_rem-result-then-b-a : goal.nonzero_rem-result-then-b-a
nonzero_rem-result-then-b-a c = grind (arith, common_steps)

pub nonzero_rem-result : goal.nonzero_rem-result
nonzero_rem-result c = grind (arith, common_steps)
