use Rattle.cip_columns.proofs.Chains.{IsPassed}
use Rattle.cip_columns.proofs.pools.find.Given as goal

abbrev pub invariant-chain : goal.invariant-chain
invariant-chain l = IsPassed l.points l.block l.values l.link

abbrev pub decreases-chain : goal.decreases-chain
decreases-chain l = l.link
