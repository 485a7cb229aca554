use Rattle.std.proofs.lemmas.Grind.{common_steps}
use Rattle.std.proofs.Common.{arith}
use Rattle.cip_presolve.proofs.copies.add_copy.Goals as goal

pub returns : goal.returns
returns c = grind (arith, common_steps)

pub add-requires : goal.add-requires
add-requires c = grind (arith, common_steps)
