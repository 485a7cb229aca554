use Rattle.std.proofs.lemmas.Grind.{common_steps}
use Rattle.std.proofs.Common.{arith}
use Rattle.cip_lin.proofs.RowSums.ActivityValue.{activity_from-zero}
use Rattle.cip_lin.proofs.rows.Row.activity.Goals as goal

pub returns-clause-value : goal.returns-clause-value
returns-clause-value c = rw (c.sum_of_products.ensures.steps, c.as_slice.ensures, ← c.self.view_is) (activity_from-zero _ _)

pub returns-clause-steps : goal.returns-clause-steps
returns-clause-steps c = grind (arith, common_steps)

pub as_slice-requires : goal.as_slice-requires
as_slice-requires c = grind (arith, common_steps)
