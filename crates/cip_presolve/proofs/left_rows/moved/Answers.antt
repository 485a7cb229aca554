use Rattle.std.proofs.lemmas.Grind.{common_steps}
use Rattle.std.proofs.Common.{arith}
use Rattle.cip_presolve.proofs.left_rows.moved.Goals as goal

pub moved_terms-requires : goal.moved_terms-requires
moved_terms-requires c = grind (arith, common_steps)

pub returns : goal.returns
returns c = grind (arith, common_steps)

pub row_of_terms-requires : goal.row_of_terms-requires
row_of_terms-requires c = grind (arith, common_steps)
