use Rattle.std.proofs.lemmas.Grind.{common_steps}
use Rattle.std.proofs.Common.{arith}
use Rattle.cip_cert.proofs.sparse.SparseRow.entries.Goals as goal

pub returns-clause-entries : goal.returns-clause-entries
returns-clause-entries c = grind (arith, common_steps)

pub returns-clause-few : goal.returns-clause-few
returns-clause-few c = grind (arith, common_steps)
