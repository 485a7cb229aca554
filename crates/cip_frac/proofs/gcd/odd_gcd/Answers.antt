use Rattle.std.proofs.lemmas.Grind.{common_steps}
use Rattle.std.proofs.Common.{arith}
use Rattle.cip_frac.proofs.Halves.{low_odd, next_odd, same_gcd, same_itself}
use Rattle.cip_frac.proofs.gcd.odd_gcd.Goals as goal

pub loop-x-preserved : goal.loop-x-preserved
loop-x-preserved c =
    record {
      first_odd = next_odd c.loop-x.x c.loop-x.y _ _ c.loop-x.invariant.first_odd c.loop-x.invariant.second_odd c.loop-x-test.true c.abs_diff-rest.ensures c.min-y.ensures c.abs_diff-rest.type_inv;
      second_odd = low_odd c.loop-x.x c.loop-x.y _ _ c.loop-x.invariant.first_odd c.loop-x.invariant.second_odd c.loop-x-test.true c.abs_diff-rest.ensures c.min-y.ensures c.abs_diff-rest.type_inv;
      same = λ g h. c.loop-x.invariant.same g (same_gcd c.loop-x.x c.loop-x.y _ _ c.loop-x.invariant.first_odd c.loop-x.invariant.second_odd c.loop-x-test.true c.abs_diff-rest.ensures c.min-y.ensures c.abs_diff-rest.type_inv g h);
    }

pub returns : goal.returns
returns c = c.loop-x.invariant.same _ (same_itself _ _ c.loop-x-test.false)

pub loop-x-smaller : goal.loop-x-smaller
loop-x-smaller c = grind (arith, common_steps)

pub loop-x-init : goal.loop-x-init
loop-x-init c = grind (arith, common_steps)
