use Rattle.std.proofs.lemmas.Grind.{common_steps}
use Rattle.std.proofs.Common.{arith}
use Rattle.cip_cert.proofs.sparse.SparseRow.touched.Goals as goal

pub returns-clause-tells : goal.returns-clause-tells
returns-clause-tells c = grind (arith, common_steps)

pub returns-clause-touched : goal.returns-clause-touched
returns-clause-touched c = grind (arith, common_steps)
