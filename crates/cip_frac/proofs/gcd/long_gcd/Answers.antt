use Rattle.std.proofs.lemmas.Grind.{common_steps}
use Rattle.std.proofs.Common.{arith}
use Rattle.std.proofs.lemmas.Nat.Gcd.{IsGcd-from_zero, IsGcd-from_mod}
use Rattle.cip_frac.proofs.gcd.long_gcd.Goals as goal

pub loop-y-preserved : goal.loop-y-preserved
loop-y-preserved c g h = c.loop-y.invariant g (IsGcd-from_mod _ _ g h)

pub returns-then-y-eq0 : goal.returns-then-y-eq0
returns-then-y-eq0 c = c.loop-y.invariant _ (IsGcd-from_zero _ _ (omega arith))

pub returns : goal.returns
returns c = c.loop-y.invariant _ (IsGcd-from_mod _ _ _ c.short_gcd.ensures)

pub nonzero_rem-x : goal.nonzero_rem-x
nonzero_rem-x c = grind (arith, common_steps)

pub nonzero_rem-rest : goal.nonzero_rem-rest
nonzero_rem-rest c = grind (arith, common_steps)

pub overflow_cast-x : goal.overflow_cast-x
overflow_cast-x c = grind (arith, common_steps)

pub overflow_cast-y : goal.overflow_cast-y
overflow_cast-y c = grind (arith, common_steps)

pub overflow_cast-result : goal.overflow_cast-result
overflow_cast-result c = grind (arith, common_steps)

pub loop-y-smaller : goal.loop-y-smaller
loop-y-smaller c = grind (arith, common_steps)
