use Rattle.std.proofs.Common.{◌≡◌, drop}
use Rattle.cip_rational.specs.Rational.{zeroℚ}
use Rattle.cip_master.specs.BlockSums.{block_sum}
use Rattle.cip_master.proofs.sums.block_sum.Given as goal

abbrev pub invariant-loop-term : goal.invariant-loop-term
invariant-loop-term l =
    block_sum l.owners l.places l.block l.values (drop l.term-index l.terms) l.sum
    ≡ block_sum l.owners l.places l.block l.values l.terms zeroℚ
