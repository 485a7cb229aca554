use Rattle.cip_presolve.proofs.CopiedParts.{CopiedTo}
use Rattle.cip_presolve.proofs.copies.copied_names.Given as goal

abbrev pub invariant-loop-number : goal.invariant-loop-number
invariant-loop-number l = CopiedTo l.names l.copy l.number
