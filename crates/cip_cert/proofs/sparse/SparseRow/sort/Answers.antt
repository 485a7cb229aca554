use Rattle.std.proofs.lemmas.Grind.{common_steps}
use Rattle.std.proofs.Common.{arith}
use Rattle.cip_cert.proofs.Cleared.{tells_sorted}
use Rattle.cip_cert.proofs.sparse.SparseRow.sort.Goals as goal

pub returns-clause-tells : goal.returns-clause-tells
returns-clause-tells c = tells_sorted _ _ _ c.sort_unstable.ensures.permutation c.self.invariant.tells

pub invariant_of-self : goal.invariant_of-self
invariant_of-self c = record {
  few = c.self.invariant.few;
  tells = tells_sorted _ _ _ c.sort_unstable.ensures.permutation c.self.invariant.tells;
  short = rw c.sort_unstable.ensures.len c.self.invariant.short;
  room = rw c.sort_unstable.ensures.capacity c.self.invariant.room;
}

pub returns-clause-entries : goal.returns-clause-entries
returns-clause-entries c = grind (arith, common_steps)
