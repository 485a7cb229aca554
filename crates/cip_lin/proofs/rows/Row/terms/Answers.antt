use Rattle.std.proofs.lemmas.Grind.{common_steps}
use Rattle.std.proofs.Common.{arith}
use Rattle.cip_lin.proofs.rows.Row.terms.Goals as goal

pub returns-clause-terms : goal.returns-clause-terms
returns-clause-terms c = grind (arith, common_steps)

pub returns-clause-valid : goal.returns-clause-valid
returns-clause-valid c = grind (arith, common_steps)

pub as_slice-requires : goal.as_slice-requires
as_slice-requires c = grind (arith, common_steps)
